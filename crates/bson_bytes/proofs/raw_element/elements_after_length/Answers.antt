use Rattle.bson_bytes.proofs.Finding.{elements_found}
use Rattle.bson_bytes.proofs.raw_element.elements_after_length.Goals as goal

pub returns-clause-elements : goal.returns-clause-elements
returns-clause-elements c = λ d ps h. elements_found c.skip_bytes.result d c.args.bytes.now ps c.skip_bytes.ensures.outcome h

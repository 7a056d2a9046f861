use Rattle.bson_bytes.proofs.Putting.{document_fits}
use Rattle.bson_bytes.proofs.laws.what_fits_has_no_cause.Goals as goal

pub returns : goal.returns
returns c = document_fits

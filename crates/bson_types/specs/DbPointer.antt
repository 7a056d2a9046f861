-- The parts of a pointer into a collection.
use Rattle.std.specs.Prelude.{ℕ, List, string_bytes}
use Rattle.bson_types.specs.declared.db_pointer.DbPointer.{DbPointer}

-- the bytes of the collection's name
abbrev pub pointer_namespace : DbPointer → List ℕ
pointer_namespace pointer = string_bytes pointer.namespace

-- the twelve bytes of the document's id
abbrev pub pointer_id : DbPointer → List ℕ
pointer_id pointer = pointer.id

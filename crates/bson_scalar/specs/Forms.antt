-- The forms of Extended JSON.
use Rattle.std.specs.Prelude.{Bool, true, false}
use Rattle.bson_scalar.specs.declared.form.Form.{Form}
use Rattle.bson_scalar.specs.declared.form.Form.TheVariants.{Canonical, MongoDbCanonical, MongoDbRelaxed, Relaxed}
use Rattle.bson_scalar.specs.declared.form.Layout.{Layout}
use Rattle.bson_scalar.specs.declared.form.Layout.TheVariants.{MongoDb}

-- the form in the layout
abbrev pub form_in : Layout → Form → Form
form_in MongoDb Canonical = MongoDbCanonical
form_in MongoDb Relaxed = MongoDbRelaxed
form_in _ form = form

-- a relaxed form has numbers as they are
abbrev pub is_relaxed : Form → Bool
is_relaxed Canonical = false
is_relaxed Relaxed = true
is_relaxed MongoDbCanonical = false
is_relaxed MongoDbRelaxed = true

-- a form in the layout of libbson and PyMongo
abbrev pub is_mongodb : Form → Bool
is_mongodb Canonical = false
is_mongodb Relaxed = false
is_mongodb MongoDbCanonical = true
is_mongodb MongoDbRelaxed = true

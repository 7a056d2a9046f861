-- The options that have a name.
use Rattle.bson_scalar.specs.declared.form.Doubles.TheVariants.{Special, Finite}
use Rattle.bson_scalar.specs.declared.form.Layout.TheVariants.{Specified, MongoDb}
use Rattle.bson_model.specs.declared.options.KeyOrder.TheVariants.{Ascending, AsGiven}
use Rattle.bson_model.specs.declared.options.Options.{Options}

-- what is done where no options are given
abbrev pub default_options : Options
default_options = record { doubles = Special; key_order = Ascending; layout = Specified }

-- what libbson and PyMongo do
abbrev pub mongodb_options : Options
mongodb_options = record { doubles = Finite; key_order = AsGiven; layout = MongoDb }

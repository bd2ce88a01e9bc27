-- Parts of splicing, under names of their own.
use Rattle.std.specs.Prelude.{List, map, ◌++◌}
use Rattle.pp_model.specs.declared.read.Read.{Read}
use Rattle.pp_model.specs.declared.splice.Entry.{Entry}
use Rattle.pp_model.specs.declared.splice.Entry.TheVariants.{Plain}

-- the tokens, and then the entries
abbrev pub followed_by : List Read → List Entry → List Entry
followed_by tokens entries = map Plain tokens ++ entries

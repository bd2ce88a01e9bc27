-- Parts of reading, under names of their own.
use Rattle.std.specs.Prelude.{◌≡◌, List, drop, Option, option_map, slice_get}
use Rattle.pp_model.specs.Names.{Name}
use Rattle.pp_model.specs.Definitions.{Definition}
use Rattle.pp_model.specs.Reading.{Opening, Listed}
use Rattle.std.specs.Option.{option_map_or}
use Rattle.pp_model.specs.declared.read.Read.{Read}
use Rattle.pp_model.specs.declared.read.Taken.{Taken}
use Rattle.pp_model.specs.declared.read.Taken.TheVariants as taken

abbrev pub opening_by : Read → Name → Option Definition → Option Opening
opening_by read name definition =
    option_map (λ definition. record { text = read.text; token = read.token; name = name; definition = definition })
    definition

abbrev pub after_listed : List Read → List Read
after_listed tokens = drop 1 tokens

abbrev pub first_listed : List Read → Taken
first_listed tokens = option_map_or taken.Token (slice_get tokens 0) taken.End

-- its tokens in order, and then the end
abbrev pub ReadsListed : Listed → Taken → Listed → Type 0
ReadsListed old given new =
    (given ≡ option_map_or taken.Token (slice_get old.tokens 0) taken.End)
    × (new ≡ record old { tokens = drop 1 old.tokens })

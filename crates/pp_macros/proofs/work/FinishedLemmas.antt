-- No effect except the end of a source gives the end.
use Rattle.std.proofs.Common.{◌≡◌, inl, inr, ℕ, Bool, true, false, List, refl, Option, Some, None}
use Rattle.std.specs.Prelude.{Err}
use Rattle.pp_lexer.specs.declared.token.Location.{Location}
use Rattle.pp_lexer.specs.declared.token.Token.{Token}
use Rattle.pp_model.specs.Acts.{defined_in}
use Rattle.pp_model.specs.Definitions.{Definition}
use Rattle.pp_model.specs.declared.definition.Named.{Named}
use Rattle.pp_macros.specs.inner.Defined.{meaning_of}
use Rattle.pp_macros.specs.declared.blocks.OpenBlock.{OpenBlock}
use Rattle.pp_model.specs.Moves.{Effect, gives, gives_item, asks, fails, ends, passes, defines, undefines, tests, decides, renumbers}
use Rattle.pp_macros.specs.inner.OpenBlocks.{BlockChange}
use Rattle.pp_macros.specs.inner.SourceMoves.{Note}
use Rattle.pp_macros.specs.inner.Source.{Source, DefinesOver, HasEffect, Decides, holds, faulty, Renumbers, numbers, unnumbered}
use Rattle.pp_macros.specs.declared.step.PlacedExit.TheVariants.{Finished}

abbrev pub is_end_effect : Effect → Bool
is_end_effect ends = true
is_end_effect _ = false

defines_on : (named : Named) (before : Option Definition) (taken : ℕ) (note : Note) (old new : Source)
    → DefinesOver named before taken note old (Err Finished) new → ⊥
defines_on named None taken note old new h = let e = h.0 in cc
defines_on named (Some before) taken note old new (inl h) = let e = h.1 in cc
defines_on named (Some before) taken note old new (inr h) = let e = h.1 in cc

decides_on : (word : Location) (tokens : List Token) (blocks : Bool → List OpenBlock) (taken : ℕ) (note : Note) (old new : Source)
    → Decides word tokens blocks taken note old (Err Finished) new → ⊥
decides_on word tokens blocks taken note old new (holds value condition h) = let e = h.0 in cc
decides_on word tokens blocks taken note old new (faulty fault condition failed left) = cc

renumbers_on : (word : Location) (tokens : List Token) (taken : ℕ) (note : Note) (old new : Source)
    → Renumbers word tokens taken note old (Err Finished) new → ⊥
renumbers_on word tokens taken note old new (numbers n number h) = let e = h.0 in cc
renumbers_on word tokens taken note old new (unnumbered fault first number found failed left) = cc

pub finished_ends : (effect : Effect) (taken : ℕ) (note : Note) (change : BlockChange) (old new : Source) → HasEffect effect taken note change old (Err Finished) new
    → is_end_effect effect ≡ true
finished_ends (gives token) taken note change old new h = let e = h.0 in cc
finished_ends (gives_item item word) taken note change old new h = let e = h.0 in cc
finished_ends (asks line) taken note change old new h = let e = h.0 in cc
finished_ends (fails fault) taken note change old new h = let e = h.0 in cc
finished_ends ends taken note change old new h = refl
finished_ends passes taken note change old new h = let e = h.0 in cc
finished_ends (defines named) taken note change old new h = absurd (defines_on (defined_in old.text named) (meaning_of old.definitions named.name) taken note old new h)
finished_ends (undefines name) taken note change old new h = let e = h.0 in cc
finished_ends (tests asked name) taken note change old new h = let e = h.0 in cc
finished_ends (decides word tokens) taken note change old new h = absurd (decides_on word tokens _ taken note old new h)
finished_ends (renumbers word tokens) taken note change old new h = absurd (renumbers_on word tokens taken note old new h)

-- How setting a content changes the source, before `add_define` makes its answer of it.
use Rattle.std.specs.Prelude.{◌≡◌, ◌+◌, List, Some, Result, Ok, Err}
use Rattle.pp_lexer.specs.declared.token.Token.{Token}
use Rattle.pp_model.specs.Names.{Name}
use Rattle.pp_model.specs.Definitions.{object_like}
use Rattle.pp_macros.specs.inner.Defined.{IsChanged}
use Rattle.pp_macros.specs.Item.{Fault}
use Rattle.pp_macros.specs.inner.Source.{Source}
use Rattle.pp_macros.specs.declared.halt.Halt.{Halt}
use Rattle.pp_macros.specs.declared.halt.Halt.TheVariants as halt

-- the name is defined in the source as an object-like macro with these tokens of one more content, and nothing else
-- changes
pub record IsSetIn (name : Name) (tokens : List Token) (old new : Source) : Type 0 where
  pub definitions : IsChanged name (Some (object_like (old.contents + 1) tokens)) old.definitions new.definitions
  pub others : new ≡ record old { definitions = new.definitions; contents = old.contents + 1 }

-- The name is defined with the tokens of the content. If the content has a fault or memory runs out, nothing changes.
abbrev pub SetsContent : Name → Result (List Token) Fault → Source → Result (Unit {0}) Halt → Source → Type 0
SetsContent name content old (Ok done) new = (tokens : List Token) × (content ≡ Ok tokens) × IsSetIn name tokens old new
SetsContent name content old (Err (halt.Fault fault)) new = (content ≡ Err fault) × (new ≡ old)
SetsContent name content old (Err halt.OutOfMemory) new = new ≡ old

-- A token that opens a macro is unpainted, so its name was not open when the token was taken.
use Rattle.std.proofs.Common.{◌≡◌, ◌∙◌, Bool, true, false, List, sym, refl, ap, Option, Some, None}
use Rattle.std.proofs.lemmas.Bool.{or_parts}
use Rattle.std.proofs.lemmas.List.Folds.{list_any-append}
use Rattle.std.specs.Prelude.{◌||◌, if◌then◌else◌, Ok, Err}
use Rattle.pp_lexer.specs.declared.token.TokenValue.{TokenValue}
use Rattle.pp_lexer.specs.declared.token.TokenValue.TheVariants.{Ident}
use Rattle.pp_model.specs.Names.{Name, is_in, is_same_name}
use Rattle.pp_model.specs.Definitions.{Definition}
use Rattle.pp_model.specs.Painting.{is_one_of, painted_among}
use Rattle.pp_model.specs.declared.read.Read.{Read}
use Rattle.pp_macros.specs.Item.{PlacedStep}
use Rattle.pp_macros.specs.inner.Frames.{names_of}
use Rattle.pp_macros.specs.inner.Expander.{Expander, StepsTaking}
use Rattle.pp_macros.specs.inner.Reader.{Reader, visible, hidden_of}
use Rattle.pp_macros.specs.inner.Reading.{painted_step}
use Rattle.pp_macros.specs.inner.Turns.{masks, macro_of, macro_of_value}
use Rattle.pp_macros.specs.inner.Defined.{opened_by}

-- the name of a macro that an unpainted value opens isn't among these
value_apart : (s : Reader) (names : List Name) (name : Name) (definition : Definition) (painted : Bool) (value : TokenValue)
    → (if painted || is_one_of names value then None else macro_of_value s value) ≡ Some (name, definition) → is_in name names ≡ false
value_apart s names name definition true value e = cc
value_apart s names name definition false (Ident x) e = go (is_in x names) (visible s x) refl e
  where
    go : (b : Bool) (d : Option Definition) → is_in x names ≡ b → (if b then None else opened_by x d) ≡ Some (name, definition) → is_in name names ≡ false
    go true d at e = cc
    go false None at e = cc
    go false (Some k) at e =
        let pair : ◌≡◌ {A = Name × Definition} (x, k) (name, definition) = cc in
        let same : x ≡ name = ap (λ (p : Name × Definition). p.0) pair in
        rw (← same) at
value_apart s names name definition false _ e = cc

-- nor is the name of a macro that a token opens which was painted among them
read_apart : (s : Reader) (names : List Name) (name : Name) (definition : Definition) (read : Read) (first : PlacedStep Read)
    → Ok read ≡ painted_step names first → macro_of s read ≡ Some (name, definition) → is_in name names ≡ false
read_apart s names name definition read (Err exit) e is = cc
read_apart s names name definition read (Ok before) e is =
    let same : read ≡ painted_among names before = cc in
    value_apart s names name definition before.painted before.token.value (rw same at is)

-- a macro that a token opens has no frame
pub opens_apart : (m n : Expander) (r s : Reader) (read : Read) (name : Name) (definition : Definition) → StepsTaking m r (Ok read) n s
    → macro_of s read ≡ Some (name, definition) → is_in name (names_of n.frames) ≡ false
opens_apart m n r s read name definition steps is =
    (or_parts (is_in name (names_of n.frames)) (is_in name (hidden_of s))
    (sym (list_any-append (is_same_name name) (names_of n.frames) (hidden_of s))
    ∙ read_apart s (masks n.frames s) name definition read steps.first steps.paints is)).0

use Rattle.std.proofs.Common.{◌≡◌, ◌∙◌, ◌&&◌, true, false, not, is_none, List, Option, Some, None, ap, sym, refl}
use Rattle.std.specs.Prelude.{position, unwrap_or}
use Rattle.std.specs.Str.{chars}
use Rattle.std.proofs.lemmas.Str.{chars-IsAscii}
use Rattle.pp_model.specs.Definitions.{Definition}
use Rattle.pp_model.specs.Names.{Name, is_same_name, line_name}
use Rattle.pp_macros.specs.inner.Defined.{Defined, Macro, meaning_of, names_in, opened_by}
use Rattle.pp_macros.proofs.defined_names.DefinitionsLemmas.{meaning_absent}
use Rattle.pp_macros.proofs.defined_names.FoundNamesLemmas.{not_found}
use Rattle.pp_directives.specs.inner.PlainText.{is_bare}
use Rattle.pp_directives.proofs.words.act_of.Goals as goal

undefined : (definitions : List Defined) (w : Name) → is_same_name w line_name ≡ false → meaning_of definitions w ≡ None
    → (not (is_same_name w line_name) && is_none (meaning_of definitions w)) ≡ true
undefined definitions w line none = rw (line, none) refl

none_opened : (w : Name) (o : Option Definition) → None ≡ opened_by w o → o ≡ None
none_opened w None e = refl
none_opened w (Some d) e = cc

bare_opened : (w name : Name) (o : Option Definition) (definition : Definition) → Some (name, definition) ≡ opened_by w o
    → definition.function_like ≡ false → is_bare o ≡ true
bare_opened w name None definition e bare = cc
bare_opened w name (Some d) definition e bare =
    let same : d ≡ definition = ap (λ (o : Option (Name × Definition)). (unwrap_or o (w, d)).1) (sym e) in
    rw (same, bare) refl

-- a name that was never defined
pub returns-in_default-find-clause-does : goal.returns-in_default-find-clause-does
returns-in_default-find-clause-does c =
    let w = c.args.word.now.spelling.now in
    let definitions = c.args.definitions.now in
    let same : chars w ≡ w = chars-IsAscii w c.requires in
    let nowhere = ap (λ (name : Name). position (is_same_name name) (names_in definitions)) (sym same) ∙ sym c.find.ensures ∙ c.in_default-find.is in
    rw c.in-Identifier.is
    (undefined definitions w (sym c.is_line_name.ensures ∙ c.if-is_line_name.false) (meaning_absent w definitions (not_found w (names_in definitions) nowhere)))

-- a name that isn't defined any more
pub returns-in-None-clause-does : goal.returns-in-None-clause-does
returns-in-None-clause-does c =
    let w = c.args.word.now.spelling.now in
    let definitions = c.args.definitions.now in
    let same : chars w ≡ w = chars-IsAscii w c.requires in
    let number = ap (λ (name : Name). position (is_same_name name) (names_in definitions)) (sym same) ∙ sym c.find.ensures ∙ c.in-Some.is in
    rw c.in-Identifier.is
    (undefined definitions w (sym c.is_line_name.ensures ∙ c.if-is_line_name.false) (none_opened w _ (rw c.in-None.is at (c.get_define.ensures.opened w number))))

-- a macro without parentheses
pub returns-in-Some-2-clause-does : goal.returns-in-Some-2-clause-does
returns-in-Some-2-clause-does c =
    let w = c.args.word.now.spelling.now in
    let definitions = c.args.definitions.now in
    let same : chars w ≡ w = chars-IsAscii w c.requires in
    let number = ap (λ (name : Name). position (is_same_name name) (names_in definitions)) (sym same) ∙ sym c.find.ensures ∙ c.in-Some.is in
    let function = ap (λ (m : Macro). m.definition.function_like) (sym c.deref.ensures) ∙ sym c.is_function_like.ensures ∙ c.if-is_function_like.false in (
      c.in-Identifier.is,
      record {
        apart = sym c.is_line_name.ensures ∙ c.if-is_line_name.false;
        number = number;
        bare = bare_opened w _ _ _ (rw c.in-Some-get_define.is at (c.get_define.ensures.opened w number)) function;
      },
    )

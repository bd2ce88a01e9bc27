use Rattle.std.proofs.Common.{◌≡◌, ◌∙◌, ap, refl, sym, true, Option, Some, None}
use Rattle.std.specs.Prelude.{is_none, not}
use Rattle.pp_model.specs.Definitions.{Definition}
use Rattle.pp_model.specs.Names.{Name}
use Rattle.pp_macros.specs.inner.Defined.{names_in, opened_by}
use Rattle.pp_macros.proofs.defined_names.DefinitionsLemmas.{meaning_absent}
use Rattle.pp_macros.proofs.defined_names.FoundNamesLemmas.{not_found}
use Rattle.pp_macros.proofs.open_frames.KnownLemmas.{open_found, not_open}
use Rattle.pp_macros.proofs.list_step.opens_none.Goals as goal

-- what has no macro isn't defined
undefined : (name : Name) (d : Option Definition) → None ≡ opened_by name d → is_none d ≡ true
undefined name None e = refl
undefined name (Some d) e = cc

pub returns-in_default : goal.returns-in_default
returns-in_default c =
    let none = sym (rw c.as_str.ensures at c.in_default.ensures) in
    rw (
      meaning_absent c.args.name.now c.args.definitions.now (not_found c.args.name.now (names_in c.args.definitions.now) none),
      not_open (names_in c.args.definitions.now) c.args.name.now c.args.processor.now c.requires none,
    ) refl

pub returns-in-None : goal.returns-in-None
returns-in-None c =
    let found = sym (rw (c.as_str.ensures, c.in-Some.is) at c.find.ensures) in
    rw (undefined c.args.name.now _ (c.in-None.ensures.opened c.args.name.now found))
    (ap not (c.is_open.ensures ∙ open_found (names_in c.args.definitions.now) c.args.name.now c.in-Some.id c.args.processor.now c.requires found))

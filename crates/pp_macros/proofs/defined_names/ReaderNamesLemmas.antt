-- The numbers of names over a reader.
use Rattle.std.proofs.Common.{◌≡◌, ℕ, Bool, true, false, Option, Some, None, refl, sym, ap}
use Rattle.std.specs.Prelude.{◌&&◌, if◌then◌else◌, position}
use Rattle.pp_lexer.specs.declared.token.TokenValue.{TokenValue}
use Rattle.pp_lexer.specs.declared.token.TokenValue.TheVariants.{Ident}
use Rattle.pp_model.specs.Definitions.{Definition}
use Rattle.pp_model.specs.Names.{Name, is_same_name, defined_name}
use Rattle.pp_macros.specs.inner.Defined.{names_in, number_in, opened_by}
use Rattle.pp_macros.specs.inner.Reader.{Reader, of_source, of_list, is_reserved, visible, definitions_of}
use Rattle.pp_macros.specs.inner.Turns.{macro_of_value}
use Rattle.pp_macros.proofs.defined_names.DefinitionsLemmas.{meaning_absent}
use Rattle.pp_macros.proofs.defined_names.FoundNamesLemmas.{not_found}

-- a name without a number opens no macro
pub opened_none : (r : Reader) (name : Name) → position (is_same_name name) (names_in (definitions_of r)) ≡ None → opened_by name (visible r name) ≡ None
opened_none (of_source s) name none =
    rw (meaning_absent name s.definitions (not_found name (names_in s.definitions) none)) refl
opened_none (of_list l) name none =
    rw (meaning_absent name l.definitions (not_found name (names_in l.definitions) none)) (by (is_reserved l name))
  where
    by : (b : Bool) → opened_by name (if b then None else None) ≡ None
    by true = refl
    by false = refl

-- On a directive's line a macro that is named `defined` isn't opened.

opened_name : (n name : Name) (d : Definition) (o : Option Definition) → Some (n, d) ≡ opened_by name o → n ≡ name
opened_name n name d None e = cc
opened_name n name d (Some k) e =
    let pair : ◌≡◌ {A = Name × Definition} (n, d) (name, k) = cc in ap (λ (p : Name × Definition). p.0) pair

module _ (is_line : Bool) (n name : Name) (d : Definition) (o : Option Definition) (found : Some (n, d) ≡ opened_by name o) where
  pub reserved_none : (is_line && is_same_name n defined_name) ≡ true → None ≡ opened_by name (if is_line && is_same_name name defined_name then None else o)
  reserved_none e = rw (rw (opened_name n name d o found) at e) refl

  pub others_found : (is_line && is_same_name n defined_name) ≡ false
      → Some (n, d) ≡ opened_by name (if is_line && is_same_name name defined_name then None else o)
  others_found e = rw (rw (opened_name n name d o found) at e) found

-- the macro that a value opens, by the number that its name has
pub value_none : (r : Reader) (value : TokenValue) → None ≡ number_in (names_in (definitions_of r)) value → None ≡ macro_of_value r value
value_none r (Ident name) is = sym (opened_none r name (sym is))
value_none r _ is = refl

pub value_opened : (r : Reader) (id : ℕ) (value : TokenValue) (found : Option (Name × Definition))
    → ((name : Name) → position (is_same_name name) (names_in (definitions_of r)) ≡ Some id → found ≡ opened_by name (visible r name))
    → Some id ≡ number_in (names_in (definitions_of r)) value → found ≡ macro_of_value r value
value_opened r id (Ident name) found opened is = opened name (sym is)
value_opened r id _ found opened is = cc

-- What the operand of a `defined` gives, by what is taken first.
use Rattle.std.proofs.Common.{◌≡◌, Bool, true, false, refl, Some, None}
use Rattle.std.specs.Prelude.{Result, Ok, Err}
use Rattle.pp_model.specs.declared.place.Place.{Place}
use Rattle.pp_lexer.specs.declared.token.TokenValue.{TokenValue}
use Rattle.pp_lexer.specs.declared.token.TokenValue.TheVariants.{Ident}
use Rattle.pp_model.specs.Places.{PlacedFault, place_of, fault_in}
use Rattle.pp_model.specs.Names.{Name}
use Rattle.pp_model.specs.Reading.{Expander, Listed, line_reading}
use Rattle.pp_model.specs.Taking.{Takes}
use Rattle.pp_model.specs.Calls.{Answers, is_left_paren, paren_at}
use Rattle.pp_model.specs.Emitting.{Emits}
use Rattle.pp_model.specs.ItemCall.{item_call}
use Rattle.pp_model.specs.SpliceList.{outermost_call}
use Rattle.pp_model.specs.LineWords.{unwanted_part, name_in_value, name_in, is_defined, closed_by, InParentheses, Operand}
use Rattle.pp_model.specs.inner.LineWords.{is_open_paren}
use Rattle.pp_model.specs.declared.read.Taken.{Taken}
use Rattle.pp_model.specs.declared.read.Taken.TheVariants as taken
use Rattle.pp_model.specs.declared.word.LineKind.{LineKind}

-- a parenthesis has a place
open_placed : (o : Taken) → is_open_paren o ≡ true → (paren : Place) × (paren_at o ≡ Some paren)
open_placed (taken.Token read) is = (place_of read, rw is refl)
open_placed _ is = cc

not_open_unplaced : (o : Taken) → is_open_paren o ≡ false → paren_at o ≡ None
not_open_unplaced (taken.Token read) is = rw is refl
not_open_unplaced _ is = refl

-- a name is none
named_value_not_open : (v : TokenValue) (n : Name) → name_in_value v ≡ Some n → is_left_paren v ≡ false
named_value_not_open (Ident text) n is = refl
named_value_not_open _ n is = cc

named_unplaced : (o : Taken) (n : Name) → name_in o ≡ Some n → paren_at o ≡ None
named_unplaced (taken.Token read) n is = not_open_unplaced (taken.Token read) (named_value_not_open read.token.value n is)
named_unplaced _ n is = refl

module _ (kind : LineKind) (directive : Place) (A : Answers) where
  -- after the `(`
  pub no_name : (o : Taken) (e f : Expander Listed) (r : Result Bool PlacedFault) → Takes line_reading e o f → name_in o ≡ None
      → r ≡ Err (fault_in (outermost_call f.list) (unwanted_part directive o)) → InParentheses kind directive A e r f
  no_name o e f r takes none is = (o, f, takes, rw none (is, refl))

  pub named : (o x : Taken) (n : Name) (e f g : Expander Listed) (r : Result Bool PlacedFault) → Takes line_reading e o f → name_in o ≡ Some n
      → (emits : Emits line_reading A f x g) → r ≡ closed_by kind directive (is_defined g n) (item_call emits) x → InParentheses kind directive A e r g
  named o x n e f g r takes some emits is = (o, f, takes, rw some (x, emits, is))

  -- the whole operand
  pub name : (o : Taken) (n : Name) (e f : Expander Listed) (r : Result Bool PlacedFault) → Takes line_reading e o f → name_in o ≡ Some n
      → r ≡ Ok (is_defined f n) → Operand kind directive A e r f
  name o n e f r takes some is = (o, f, takes, rw (named_unplaced o n some, some) (is, refl))

  pub in_parentheses : (o : Taken) (e f g : Expander Listed) (r : Result Bool PlacedFault) → Takes line_reading e o f → is_open_paren o ≡ true
      → InParentheses kind directive A f r g → Operand kind directive A e r g
  in_parentheses o e f g r takes opens inside = (o, f, takes, rw (open_placed o opens).1 inside)

  pub neither : (o : Taken) (e f : Expander Listed) (r : Result Bool PlacedFault) → Takes line_reading e o f → name_in o ≡ None → is_open_paren o ≡ false
      → r ≡ Err (fault_in (outermost_call f.list) (unwanted_part directive o)) → Operand kind directive A e r f
  neither o e f r takes none still is = (o, f, takes, rw (not_open_unplaced o still, none) (is, refl))

-- Over a list of tokens an expander has items up to the end, or up to a first fault.
use Rattle.std.proofs.Common.{◌≡◌, ℕ, ◌<◌, Bool, true, List, [], ◌∷◌, drop, length, refl, arith}
use Rattle.std.specs.Prelude.{Result, Ok, Err, slice_get}
use Rattle.std.specs.Option.{option_map_or}
use Rattle.pp_model.specs.Places.{PlacedFault}
use Rattle.pp_model.specs.Names.{Name}
use Rattle.pp_model.specs.Reading.{Reading, Expander, Listed, listed_reading}
use Rattle.pp_model.specs.Calls.{Answers}
use Rattle.pp_model.specs.Emitting.{first_before, Emits, Collects, done, failed, item}
use Rattle.pp_model.specs.ExistenceLaws.{IsFinite, AnAnswer, AReading, ATaking, AGathering, ACall, AnItem, AList}
use Rattle.pp_model.specs.declared.read.Read.{Read}
use Rattle.pp_model.specs.declared.read.Taken.{Taken}
use Rattle.pp_model.specs.declared.read.Taken.TheVariants as taken
use Rattle.pp_model.proofs.existence.Turns.{is_token, Given, GoesOn, goes_on, next_item, Premises}
use Rattle.pp_model.proofs.existence.EveryExpander.{every}
use Rattle.pp_model.proofs.existence.CallLemmas.{fine_taking, fine_gathering, fine_call}

-- ---- a list of tokens as a reader

abbrev pub HasFinite : Listed → Type 0
HasFinite r = IsFinite r.visible

abbrev pub tokens_left : Listed → ℕ
tokens_left r = length r.tokens

fewer_tokens : (tokens : List Read) → is_token (option_map_or taken.Token (slice_get tokens 0) taken.End) ≡ true
    → length (drop 1 tokens) < length tokens
fewer_tokens [] h = cc
fewer_tokens (read ∷ tokens) h = omega arith

listed_gives : (is_reserved : Name → Bool) (r : Listed) → HasFinite r → Given (listed_reading is_reserved) HasFinite tokens_left r
listed_gives is_reserved r finite = record {
  given = option_map_or taken.Token (slice_get r.tokens 0) taken.End;
  after = record r { tokens = drop 1 r.tokens };
  reads = (refl, refl);
  fine = finite;
  falls = fewer_tokens r.tokens;
}

module _ (is_reserved : Name → Bool) (A : Answers) (answered : AnAnswer A) where
  -- Lists of tokens meet what is asked of a reader,
  listed_premises : Premises (listed_reading is_reserved) A HasFinite tokens_left
  listed_premises = record { gives = listed_gives is_reserved; finite = λ r finite. finite; answered = answered }

  -- so every expander over one goes on.
  pub every_listed : (e : Expander Listed) → HasFinite e.reader → GoesOn (listed_reading is_reserved) A HasFinite e
  every_listed = every listed_premises

-- ---- its items

module _ {R : Type 0} (I : Reading R) (A : Answers) (Fine : R → Type 0) where
  abbrev Listing : Expander R → Type 0
  Listing e = (out : Result (List Read) PlacedFault) × Collects I A e out

  given_first : (e f : Expander R) (x : Taken) → Emits I A e x f → (is_token x ≡ true → Listing f) → Listing e
  given_first e f (taken.Token read) i rest =
      (first_before read (rest refl).0, item read (rest refl).0 (first_before read (rest refl).0) e f i (rest refl).1 refl)
  given_first e f (taken.Fault fault) i rest = (Err fault, failed fault e f (Err fault) i refl)
  given_first e f taken.End i rest = (Ok [], done e f (Ok []) i refl)

  listing : (e : Expander R) → GoesOn I A Fine e → Listing e
  listing e (goes_on x o e1 f h takes fine_f more emits fine_h next) = given_first e h o emits (λ k. listing h (next k))

-- Over a list of tokens an expander has items up to the end, or up to a fault.
pub a_list : (is_reserved : Name → Bool) (A : Answers) → AnAnswer A → AList (listed_reading is_reserved) A
a_list is_reserved A answered e finite = listing (listed_reading is_reserved) A HasFinite e (every_listed is_reserved A answered e finite)

-- ---- its steps

-- A list of tokens passes something next.
pub list_reads : (is_reserved : Name → Bool) → AReading (listed_reading is_reserved)
list_reads is_reserved r finite = let g = listed_gives is_reserved r finite in (g.given, g.after, g.reads)

module _ (is_reserved : Name → Bool) (A : Answers) (answered : AnAnswer A) where
  -- Over a list of tokens something is taken from an expander.
  pub list_taking : ATaking (listed_reading is_reserved)
  list_taking = fine_taking (listed_premises is_reserved A answered)

  -- The search for the end of a call gathers tokens, or meets a fault.
  pub list_gathering : AGathering (listed_reading is_reserved)
  list_gathering = fine_gathering (listed_premises is_reserved A answered)

  -- The search for a call finds one, none or a fault.
  pub list_call : ACall (listed_reading is_reserved) A
  list_call = fine_call (listed_premises is_reserved A answered)

  -- Over a list of tokens an expander has a next item.
  pub list_item : AnItem (listed_reading is_reserved) A
  list_item e finite = let i = next_item e (every_listed is_reserved A answered e finite) in (i.item, i.after, i.emits)

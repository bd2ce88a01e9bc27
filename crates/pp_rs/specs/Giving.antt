-- One call of `give_tokens` (docs/RULES.md, "Calls").
use Rattle.std.specs.Prelude.{◌≡◌, ◌⊎◌, ◌<◌, Bool, true, false, Option, Some, None, Ok, IfSome}
use Rattle.pp_lexer.specs.TokenValue.{is_ordinary}
use Rattle.pp_macros.specs.Item.{Item}
use Rattle.pp_rs.specs.Kept.{Preprocessing, most_items, origin_of}
use Rattle.pp_rs.specs.Preprocessing.{IsNextItem, is_refusal}
use Rattle.pp_rs.specs.TokenRefs.{token_of}
use Rattle.pp_rs.specs.declared.pp.token_ref.TokenRef.{TokenRef}

-- `next` would give these tokens, one after another, and the sink took each, with its origin.
pub data AreGiven {S : Type 0} (takes : S → TokenRef → S → Type 0) (old : Preprocessing) (before : S)
    : Preprocessing → S → Type 0 where
  nothing : (new : Preprocessing) (after : S) → new ≡ old → after ≡ before → AreGiven takes old before new after
  one_more : (token : TokenRef) (now new : Preprocessing) (between after : S)
      → AreGiven takes old before now between
      → IsNextItem now (Some (Ok (token_of token))) new
      → token.origin ≡ origin_of new
      → takes between token after
      → AreGiven takes old before new after

-- the answer is an ordinary token
abbrev pub is_ordinary_token : Option Item → Bool
is_ordinary_token (Some (Ok token)) = is_ordinary token.value
is_ordinary_token _ = false

-- the answer that comes, as `next` gives it; none is read once the sink is full
abbrev pub ComesUnlessFull : Bool → Preprocessing → Option Item → Preprocessing → Type 0
ComesUnlessFull true old answer new = (answer ≡ None) × (new ≡ old)
ComesUnlessFull false old answer new = IsNextItem old answer new

-- All ordinary tokens that came were given to the sink, up to where it was full, and then the answer came. The sink is
-- as it was after the last of them, but if memory ran out as it took one more. The bound of what is left falls with
-- each item.
pub record GivesTokens {S : Type 0} (takes : S → TokenRef → S → Type 0) (refuses : S → S → Type 0)
    (is_full : S → Bool) (old : Preprocessing) (before : S) (answer : Option Item) (new : Preprocessing) (after : S)
    : Type 0 where
  pub last : Preprocessing
  pub taken : S
  pub given : AreGiven takes old before last taken
  pub next : ComesUnlessFull (is_full taken) last answer new
  pub no_token : is_ordinary_token answer ≡ false
  pub sink : is_refusal answer ≡ false → after ≡ taken
  pub refused : (after ≡ taken) ⊎ refuses taken after
  pub less_left : IfSome answer (λ item. most_items new < most_items old)

-- How far `give_tokens` has got.
use Rattle.std.specs.Prelude.{◌≡◌, ◌⊎◌, ◌<◌, ◌≤◌, Bool, true, false, Option}
use Rattle.pp_lexer.specs.declared.token.Token.{Token}
use Rattle.pp_model.specs.declared.splice.Origin.{Origin}
use Rattle.pp_rs.specs.TokenRefs.{token_of}
use Rattle.pp_macros.specs.inner.Frames.{outermost_frame_call}
use Rattle.pp_rs.specs.Giving.{AreGiven}
use Rattle.pp_rs.specs.Kept.{Preprocessing, is_spent, most_items}
use Rattle.pp_rs.specs.inner.NextWord.{IsPassed}
use Rattle.pp_rs.specs.declared.pp.token_ref.TokenRef.{TokenRef}
use Rattle.pp_model.specs.declared.splice.CallPlace.{CallPlace}

-- the call that gives the next token, if an wants macro gives it
abbrev pub IsFrontCall : Option CallPlace → Preprocessing → Type 0
IsFrontCall call p = call ≡ outermost_frame_call p.expander.frames

-- the sink took the token, which comes from there
pub record TakesToken {S : Type 0} (takes : S → TokenRef → S → Type 0) (token : Token) (origin : Origin)
    (old new : S) : Type 0 where
  pub reference : TokenRef
  pub refers : token_of reference ≡ token
  pub comes : reference.origin ≡ origin
  pub taken : takes old reference new

-- tokens were given, and then only pauses were passed, and not even these once the sink was full
pub record IsGiving {S : Type 0} (takes : S → TokenRef → S → Type 0) (is_full : S → Bool) (start : Preprocessing)
    (first : S) (now : Preprocessing) (sink : S) : Type 0 where
  pub last : Preprocessing
  pub given : AreGiven takes start first last sink
  pub passed : IsPassed last now
  pub stops : is_full sink ≡ true → now ≡ last

-- tokens were given, and then memory ran out, perhaps as the sink took one more
pub record IsRefusedAfter {S : Type 0} (takes : S → TokenRef → S → Type 0) (refuses : S → S → Type 0)
    (is_full : S → Bool) (start : Preprocessing) (first after : S) : Type 0 where
  pub last : Preprocessing
  pub taken : S
  pub given : AreGiven takes start first last taken
  pub wants : is_full taken ≡ false
  pub refused : (after ≡ taken) ⊎ refuses taken after
  pub unspent : is_spent last ≡ false
  pub some_left : 0 < most_items last

-- giving that got as far as the first has now got as far as the second
abbrev pub KeepsGiving : {S : Type 0} → (S → TokenRef → S → Type 0) → (S → Bool) → Preprocessing → S → Preprocessing
    → S → Type 0
KeepsGiving {S} takes is_full old before new after =
    (start : Preprocessing) (first : S)
    → IsGiving takes is_full start first old before
    → IsGiving takes is_full start first new after

-- memory ran out for giving that got as far as this
abbrev pub IsRefused : {S : Type 0} → (S → TokenRef → S → Type 0) → (S → S → Type 0) → (S → Bool) → Preprocessing → S
    → S → Type 0
IsRefused {S} takes refuses is_full old before after =
    (start : Preprocessing) (first : S)
    → IsGiving takes is_full start first old before
    → IsRefusedAfter takes refuses is_full start first after

-- less is left once a macro has opened, and else no more
abbrev pub HasLeft : Bool → Preprocessing → Preprocessing → Type 0
HasLeft true old new = most_items new < most_items old
HasLeft false old new = most_items new ≤ most_items old

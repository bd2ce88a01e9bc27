-- The items that are left after the last definition, and all of them together.
use Rattle.std.proofs.Common.{◌≡◌, ◌+◌, arith, true, false, [], ◌∷◌, ◌++◌, map, length, refl, Option, Some, None, MatchOption}
use Rattle.std.specs.Prelude.{Bool, option_map}
use Rattle.std.proofs.lemmas.List.{replicate_more, map_push, length_push}
use Rattle.std.proofs.Math.ListN.{replicate}
use Rattle.pp_model.specs.Run.{next}
use Rattle.pp_rs.specs.Kept.{Preprocessing, is_spent}
use Rattle.pp_rs.specs.Giving.{AreGiven, nothing, one_more}
use Rattle.pp_rs.specs.TokenRefs.{token_of}
use Rattle.pp_c.specs.Preprocessed.{Given, given_entries, asks, token as made_token}
use Rattle.pp_c.specs.inner.Making.{GivesNext, Made, NextIsWritten, is_front, IsSmall, HasRest, GivesRest, GivesToEnd}
use Rattle.pp_c.specs.inner.Making as made
use Rattle.pp_c.specs.inner.Taking.{Takes, TakesToken}
use Rattle.pp_c.specs.declared.output.Output.{Output}
use Rattle.pp_c.specs.declared.preprocessing.Progress.{Progress}
use Rattle.pp_c.proofs.MadeLemmas.{made_then}
use Rattle.pp_c.proofs.NextLemmas.{next_token}
use Rattle.pp_c.proofs.ProgressLemmas.{takes_item, made_one}
use Rattle.pp_c.proofs.TakingLemmas.{takes_none}

-- none so far
pub rest_none : (old : Preprocessing) (output : Output) → is_spent old ≡ false → GivesRest old output old output
rest_none old output unspent = record {
  more = [];
  made = made.none old old [] [] refl refl refl;
  takes = takes_none output;
  unspent = unspent;
}

module _ (begun : Preprocessing) (first : Output) (old : Preprocessing) (output : Output) (new : Preprocessing) (after : Output)
    (small : IsSmall output) (h : GivesRest begun first old output) where
  rest_made : (answer : Option Given) → GivesNext old answer new → Made begun (replicate (length h.more + 1) next) (map Some h.more ++ answer ∷ []) new
  rest_made answer gives =
      rw (← replicate_more (length h.more) next)
      (made_then begun old new (replicate (length h.more) next) (next ∷ []) (map Some h.more) (answer ∷ []) h.made (made_one answer old new gives))

  rest_by : (answer : Option Given) (asking : Bool) → GivesNext old answer new → MatchOption answer (after ≡ output) (λ given. Takes output (given_entries given) after)
      → Some asking ≡ option_map asks answer → GivesRest begun first new after
  rest_by None asking gives takes e = cc
  rest_by (Some g) asking gives takes e = record {
    more = h.more ++ g ∷ [];
    made = rw (length_push h.more g, map_push Some h.more g) (rest_made (Some g) gives);
    takes = takes_item first output after h.more g small h.takes takes;
    unspent = gives.given.spent;
  }

  end_by : (answer : Option Given) → GivesNext old answer new → MatchOption answer (after ≡ output) (λ given. Takes output (given_entries given) after)
      → None ≡ option_map asks answer → GivesToEnd begun first new after
  end_by (Some g) gives takes e = cc
  end_by None gives takes e = record { more = h.more; made = rest_made None gives; takes = rw takes h.takes }

  -- one more
  pub rest_more : (asking : Bool) → NextIsWritten old new output after (Some asking) → GivesRest begun first new after
  rest_more asking w = rest_by w.answer asking w.gives w.takes w.is_more

  -- the end
  pub rest_end : (progress : Progress) → is_front progress.end ≡ true → NextIsWritten old new output after None → HasRest progress begun first new after
  rest_end progress going w = record {
    ended = λ e. cc;
    rest = λ e. end_by w.answer w.gives w.takes w.is_more;
  }

module _ (begun : Preprocessing) (first : Output) (small : IsSmall first) where
  -- the memory stays small
  pub rest_small : (old : Preprocessing) (output : Output) → GivesRest begun first old output → IsSmall output
  rest_small old output h = record { items = omega (arith, h.takes.items_room, small.items); texts = omega (arith, h.takes.texts_room, small.texts) }

  -- tokens that the output took
  pub rest_given : (old : Preprocessing) (output : Output) → GivesRest begun first old output → (last : Preprocessing) (taken : Output)
      → AreGiven TakesToken old output last taken → GivesRest begun first last taken
  rest_given old output h last taken (nothing p s e f) = rw (e, f) h
  rest_given old output h last taken (one_more token now p between s given came line takes) =
      let before = rest_given old output h now between given in
      rest_more begun first now between last taken (rest_small now between before) before false (record {
        answer = Some (made_token (token_of token));
        gives = next_token now last before.unspent (token_of token) came;
        takes = takes;
        is_more = refl;
      })

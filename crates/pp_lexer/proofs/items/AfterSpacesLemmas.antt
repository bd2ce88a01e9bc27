-- What is left after spaces that weren't passed: the same items are to come there.
use Rattle.std.proofs.Common.{◌≡◌, ℕ, ◌+◌, ◌-◌, ◌<◌, ◌≤◌, List, length, take, drop, get_or, true, false, refl, ◌∙◌, ap, arith}
use Rattle.std.proofs.Math.Bool.{or-true, or-false}
use Rattle.std.proofs.lemmas.List.{length-drop}
use Rattle.std.specs.List.{list_all}
use Rattle.std.specs.Str.{IsUtf8}
use Rattle.pp_lexer.specs.declared.lexer.Flags.{Flags}
use Rattle.pp_lexer.specs.Reading.{Reading}
use Rattle.pp_lexer.specs.inner.AfterSpaces.{after_spaces, IsAfterSpaces}
use Rattle.pp_lexer.specs.inner.Fronts.{spots_from, IsLeft}
use Rattle.pp_lexer.specs.inner.Passing.{seen_of, comments_at_end, places_left}
use Rattle.pp_lexer.specs.inner.PlainWords.{is_space}
use Rattle.pp_lexer.proofs.characters.SpacesLemmas.{spaced}
use Rattle.pp_lexer.proofs.items.PlainLexLemmas.{spaces_same, spaces_placed, spaces_comments}

unspaced : (f : Flags) → after_spaces false f ≡ f
unspaced f = ap (λ b. record f { leading_whitespace = b }) (or-false f.leading_whitespace)

spaced_is : (f : Flags) → after_spaces true f ≡ spaced f
spaced_is f = ap (λ b. record f { leading_whitespace = b }) (or-true f.leading_whitespace)

pub after_none : (line at : ℕ) (text : List ℕ) (r : Reading) → IsLeft line at text r.rest → IsAfterSpaces line at text false r
after_none line at text r left = grind arith

module _ (line at n : ℕ) (text rest : List ℕ) (r : Reading) (left : IsLeft line at text r.rest) (u : IsUtf8 text) (some : 0 < n)
    (le : n ≤ length text) (passes : list_all is_space (take n text) ≡ true) (e : rest ≡ drop n text) where
  after : Reading
  after = record {
    rest = spots_from line (at + n) rest;
    last = record { c = get_or text (n - 1) 0; line = line; begin = at + n - 1; end = at + n };
  }

  after_is : after ≡ record {
    rest = spots_from line (at + n) (drop n text);
    last = record { c = get_or text (n - 1) 0; line = line; begin = at + n - 1; end = at + n };
  }
  unfolding after
  after_is = ap (λ t. record {
    rest = spots_from line (at + n) t;
    last = record { c = get_or text (n - 1) 0; line = line; begin = at + n - 1; end = at + n };
  }) e

  left_after : IsLeft line (at + n) rest after.rest
  unfolding after
  left_after =
      let room = left.room in
      let lines = left.lines in
      record {
        rest_is = refl;
        room = omega (arith, ap length e, length-drop n text);
        lines = omega arith;
      }

  pub after_some : IsAfterSpaces line (at + n) rest true r
  after_some = record {
    there = after;
    left = left_after;
    seen = λ rules f. ap (λ g. seen_of rules g after) (spaced_is f)
        ∙ spaces_same rules f r line at text left.rest_is u after n some le passes after_is;
    at_end = λ rules f. ap (λ g. comments_at_end rules g after) (spaced_is f)
        ∙ spaces_comments rules f r line at text left.rest_is u after n some le passes after_is;
    places = λ rules f. ap (λ g. places_left rules g after) (spaced_is f)
        ∙ spaces_placed rules f r line at text left.rest_is u after n some le passes after_is;
  }

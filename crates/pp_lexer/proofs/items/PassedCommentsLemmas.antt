-- How a lexer in the midst of a text passes a plain comment.
use Rattle.std.proofs.Common.{◌≡◌, ℕ, ◌+◌, List, ◌∷◌, drop, true, refl, sym, ◌∙◌, ap, subst, Some, option_map}
use Rattle.std.proofs.Math.Bool.{or-true}
use Rattle.pp_lexer.specs.declared.rules.Rules.{Rules}
use Rattle.pp_lexer.specs.declared.lexer.char_iterator.Spot.{Spot}
use Rattle.pp_lexer.specs.declared.lexer.Flags.{Flags}
use Rattle.pp_lexer.specs.declared.lexer.plain.comment.Comment.{Comment}
use Rattle.pp_lexer.specs.inner.Fronts.{spots_from}
use Rattle.pp_lexer.specs.inner.PlainWords.{IsPlainComment}
use Rattle.pp_lexer.specs.Reading.{Reading, first_of, first_char, past, after_first}
use Rattle.pp_lexer.proofs.items.PassingLemmas.{IsBlanked, blanked, blank_passed}

-- the flags after a comment
abbrev pub commented : Flags → Flags
commented f = record { leading_whitespace = true; start_of_line = f.start_of_line; had_comments = true }

pub comment_passed : (rules : Rules) (f : Flags) (r q : Reading) (line at : ℕ) (text rest : List ℕ) (comment : Comment)
    → r.rest ≡ spots_from line at text
    → IsPlainComment text comment → rest ≡ drop comment.taken text
    → q ≡ record {
      rest = spots_from (line + comment.newlines) (at + comment.taken) rest;
      last = record { c = 13; line = line; begin = at; end = at + 1 };
    } → IsBlanked rules f (commented f) r q
comment_passed rules f r q line at text rest comment e w g k =
    let mark : Spot = record { c = 13; line = line; begin = at; end = at + 1 } in
    let more = spots_from (line + comment.newlines) (at + comment.taken) rest in
    let front : r.rest ≡ mark ∷ more =
    e ∙ w.front line at ∙ ap (λ t. mark ∷ spots_from (line + comment.newlines) (at + comment.taken) t) (sym g) in
    let here : Some 13 ≡ option_map (λ s. s.c) (first_char r) = sym (ap (λ ss. option_map (λ s. s.c) (first_of ss)) front) in
    let there : q ≡ after_first r = k ∙ sym (ap (λ ss. past ss r.last) front) in
    let flags : blanked f 13 ≡ commented f =
    ap (λ b. record { leading_whitespace = true; start_of_line = f.start_of_line; had_comments = b }) (or-true f.had_comments) in
    subst (λ g. IsBlanked rules f g r q) flags (blank_passed rules f r r q 13 here refl refl there)

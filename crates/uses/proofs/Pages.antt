-- Pages that show texts, one after another.
use Rattle.std.proofs.Common.{◌≡◌, ◌∙◌, ◌+◌, ◌-◌, ◌≤◌, inl, inr, ℕ, List, [], ◌∷◌, ◌++◌, true, ◌&&◌, ◌==◌, if◌then◌else◌, Option, None, Some, codes, take, drop, length, refl, ap, sym, subst, append_assoc, append-nil, add-zero, arith, string_bytes}
use Rattle.std.specs.Str.{chars, IsCharBoundary, IsUtf8}
use Rattle.std.proofs.lemmas.Bool.Decides.{eqb_tells}
use Rattle.std.proofs.lemmas.Str.{IsUtf8-append, IsUtf8-take, IsUtf8-string_bytes, IsCharBoundary-from_take, IsCharBoundary-start, IsCharBoundary-end, chars-append, chars-nil}
use Rattle.std.specs.Borrow.{Bor}
use Rattle.std.specs.Prelude.{unwrap_or, not, is_ok, Result, Ok, Err, OnOk}
use Rattle.std.proofs.lemmas.Str.{IsUtf8-from_ascii}
use Rattle.std.proofs.lemmas.List.Folds.{list_all-append}
use Rattle.uses.proofs.Texts.{ascii, chars_same}
use Rattle.std.specs.Str.Pattern.{GetsRange}
use Rattle.std.proofs.Math.Seq.{take-add}
use Rattle.uses.specs.Pages.{stay_in_tag, Shows, nothing, tag, less_than, ampersand, other, escaped_character, IsWritten}
use Rattle.uses.specs.declared.highlighter.Page.{Page}

pub both_shown : (page more text rest : List ℕ) → Shows page text → Shows more rest → Shows (page ++ more) (text ++ rest)
both_shown page more text rest nothing h = h
both_shown page more text rest (tag inside after _ is_inside shows) h =
    subst (λ p. Shows p (text ++ rest)) (sym (append_assoc (codes "<" ++ inside ++ codes ">") after more))
    (tag inside (after ++ more) (text ++ rest) is_inside (both_shown after more text rest shows h))
both_shown page more text rest (less_than after shown shows) h = less_than (after ++ more) (shown ++ rest) (both_shown after more shown rest shows h)
both_shown page more text rest (ampersand after shown shows) h = ampersand (after ++ more) (shown ++ rest) (both_shown after more shown rest shows h)
both_shown page more text rest (other c after shown not_less not_and shows) h =
    other c (after ++ more) (shown ++ rest) not_less not_and (both_shown after more shown rest shows h)

pub escaped_itself : (c : ℕ) → (c ≡ 60 → ⊥) → (c ≡ 38 → ⊥) → escaped_character c ≡ c ∷ []
escaped_itself c not_less not_and = elim (eqb_tells c 60) [
  | inl h ↦ absurd (not_less h.1)
  | inr h ↦ elim (eqb_tells c 38) [ inl k ↦ absurd (not_and k.1) | inr k ↦ rw (h.0, k.0) refl ]
]

pub escaped_shown : (c : ℕ) → Shows (escaped_character c) (c ∷ [])
escaped_shown c = elim (eqb_tells c 60) [
  | inl h ↦ rw h.1 (less_than [] [] nothing)
  | inr h ↦ elim (eqb_tells c 38) [
    | inl k ↦ rw k.1 (ampersand [] [] nothing)
    | inr k ↦ rw (h.0, k.0) (other c [] [] h.1 k.1 nothing)
  ]
]

-- a tag behind a page
pub tag_shown : (page inside text : List ℕ) → Shows page text → stay_in_tag inside ≡ true → Shows (page ++ (codes "<" ++ inside ++ codes ">")) text
tag_shown page inside text shows is_inside =
    let one : Shows (codes "<" ++ inside ++ codes ">" ++ []) [] = tag inside [] [] is_inside nothing in
    let alone = rw append-nil at one in
    subst (λ t. Shows (page ++ (codes "<" ++ inside ++ codes ">")) t) (append-nil text) (both_shown page (codes "<" ++ inside ++ codes ">") text [] shows alone)

-- some characters after those that were written show too, and nothing else changed
pub record Writes (begun now : Page) (more : List ℕ) : Type 0 where
  pub done : now.done ≡ begun.done
  pub source : now.source.now ≡ begun.source.now
  pub shows : Shows (chars (string_bytes now.text)) (chars (take begun.done begun.source.now) ++ more)

pub nothing_more : (page : Page) → IsWritten page → Writes page page []
nothing_more page w = record { done = refl; source = refl; shows = rw (append-nil (chars (take page.done page.source.now))) w.shows }

pub one_more : (begun now new : Page) (more : List ℕ) (c : ℕ) → Writes begun now more → new.done ≡ now.done → new.source.now ≡ now.source.now
    → chars (string_bytes new.text) ≡ chars (string_bytes now.text) ++ escaped_character c → Writes begun new (more ++ c ∷ [])
one_more begun now new more c w done source e = record {
  done = done ∙ w.done;
  source = source ∙ w.source;
  shows = rw e (subst (λ t. Shows (chars (string_bytes now.text) ++ escaped_character c) t) (append_assoc (chars (take begun.done begun.source.now)) more (c ∷ []))
      (both_shown _ _ _ _ w.shows (escaped_shown c)));
}

-- what `get` gives of a text from a byte where it may be cut, or the empty text
pub record IsPieceFrom (source : List ℕ) (from to : ℕ) (piece : List ℕ) : Type 0 where
  pub front : take (from + length piece) source ≡ take from source ++ piece
  pub within : from + length piece ≤ length source
  pub whole : to ≡ length source → from + length piece ≡ to

pub piece_from : (source : List ℕ) (from to : ℕ) (got : Option (Bor (List ℕ))) (empty : Bor (List ℕ)) → IsCharBoundary source from
    → GetsRange source from to got → empty.now ≡ [] → IsPieceFrom source from to (unwrap_or got empty).now
piece_from source from to None empty b h e =
    let none : length empty.now ≡ 0 = ap length e in
    let end = IsCharBoundary-end source in
    record {
      front = rw (e, add-zero) (sym (append-nil (take from source)));
      within = omega (arith, b.0);
      whole = λ all. absurd (h (omega (arith, b.0)) b (rw all end));
    }
piece_from source from to (Some piece) empty b h e =
    let sum : to - from ≡ length piece.now = omega (arith, h.1) in
    record {
      front = take-add from (length piece.now) source ∙ ap (λ p. take from source ++ p) (sym (h.0 ∙ ap (λ n. take n (drop from source)) sum));
      within = omega (arith, h.1, h.2);
      whole = λ all. omega (arith, h.1);
    }

-- all characters of a piece
pub all_written : (begun now new : Page) (piece : List ℕ) (to : ℕ) → IsWritten begun → Writes begun now (chars piece) → IsPieceFrom begun.source.now begun.done to piece
    → IsUtf8 piece → new.done ≡ begun.done + length piece → new.source.now ≡ now.source.now → string_bytes new.text ≡ string_bytes now.text → IsWritten new
all_written begun now new piece to w h p is_text done source text =
    let before : IsUtf8 (take begun.done begun.source.now) = IsUtf8-take begun.source.now begun.done w.is_text w.reached in
    let there : IsCharBoundary begun.source.now (begun.done + length piece) =
    IsCharBoundary-from_take begun.source.now (begun.done + length piece) w.is_text p.within (subst IsUtf8 (sym p.front) (IsUtf8-append _ piece before is_text)) in
    let same : new.source.now ≡ begun.source.now = source ∙ h.source in
    let shown : chars (take begun.done begun.source.now) ++ chars piece ≡ chars (take (begun.done + length piece) begun.source.now) =
    sym (ap chars p.front ∙ chars-append (take begun.done begun.source.now) piece before) in
    record {
      is_text = subst IsUtf8 (sym same) w.is_text;
      reached = rw (same, done) there;
      shows = rw (same, done, text, ← shown) h.shows;
    }

-- a tag changes nothing of what shows
pub tag_written : (page new : Page) (inside : List ℕ) → IsWritten page → stay_in_tag inside ≡ true → new.done ≡ page.done → new.source.now ≡ page.source.now
    → chars (string_bytes new.text) ≡ chars (string_bytes page.text) ++ (codes "<" ++ inside ++ codes ">") → IsWritten new
tag_written page new inside w is_inside done source e = record {
  is_text = rw source w.is_text;
  reached = rw (source, done) w.reached;
  shows = rw (source, done, e) (tag_shown (chars (string_bytes page.text)) inside (chars (take page.done page.source.now)) w.shows is_inside);
}

pub none_written : (page : Page) → IsUtf8 page.source.now → page.done ≡ 0 → string_bytes page.text ≡ [] → IsWritten page
none_written page is_text done text = record {
  is_text = is_text;
  reached = rw done (IsCharBoundary-start page.source.now is_text);
  shows = rw (done, text, chars-nil) nothing;
}

-- the bytes of a tag with a class, as characters
pub span_chars : (class : List ℕ) → IsUtf8 class
    → chars (codes "<span class=\"" ++ (class ++ codes "\">")) ≡ codes "<" ++ (codes "span class=\"" ++ chars class ++ codes "\"") ++ codes ">"
span_chars class is_text =
    chars-append (codes "<span class=\"") (class ++ codes "\">") (IsUtf8-from_ascii (codes "<span class=\"") (ascii (codes "<span class=\"") refl))
    ∙ ap (λ t. t ++ chars (class ++ codes "\">")) (chars_same (codes "<span class=\"") refl)
    ∙ ap (λ t. codes "<span class=\"" ++ t) (chars-append class (codes "\">") is_text ∙ ap (λ t. chars class ++ t) (chars_same (codes "\">") refl)
    ∙ sym (append_assoc (chars class) (codes "\"") (codes ">")))

pub span_stays : (class : List ℕ) → stay_in_tag class ≡ true → stay_in_tag (codes "span class=\"" ++ class ++ codes "\"") ≡ true
span_stays class e = list_all-append (λ c. not (c == 62)) class (codes "\"") ∙ ap (λ b. b && true) e

-- the same for `push_str` of a tag's end
pub end_written : {T E : Type 0} (r : Result T E) (page new : Page) → IsWritten page → new.done ≡ page.done → new.source.now ≡ page.source.now
    → string_bytes new.text ≡ (if is_ok r then string_bytes page.text ++ codes "</span>" else string_bytes page.text) → OnOk r (IsWritten new)
end_written (Err x) page new w done source e = tt
end_written (Ok x) page new w done source e = tag_written page new (codes "/span") w refl done source
    (ap chars e ∙ chars-append (string_bytes page.text) (codes "</span>") (IsUtf8-string_bytes page.text) ∙ ap (λ t. chars (string_bytes page.text) ++ t) (chars_same (codes "</span>") refl))

-- Sources, as far as they are written.
use Rattle.std.proofs.Common.{◌≡◌, ◌∙◌, ◌+◌, ◌-◌, ◌≤◌, ℕ, List, [], ◌++◌, Option, None, Some, take, drop, length, refl, ap, sym, subst, append-nil, add-zero, arith, string_bytes}
use Rattle.std.specs.Borrow.{Bor}
use Rattle.std.specs.Prelude.{unwrap_or, is_ok, Result, OnOk, if◌then◌else◌}
use Rattle.std.specs.Str.{chars, IsCharBoundary, IsUtf8}
use Rattle.std.specs.Str.Pattern.{GetsRange}
use Rattle.std.proofs.Math.Seq.{take-add, take-length}
use Rattle.std.proofs.lemmas.Str.{IsUtf8-append, IsUtf8-take, IsCharBoundary-from_take, IsCharBoundary-start, IsCharBoundary-end, chars-append, chars-nil}
use Rattle.glslpp_html.specs.Shown.{Shows, nothing}
use Rattle.glslpp_html.specs.Written.{IsWritten, ShowsMore}
use Rattle.glslpp_html.specs.declared.source.Writer.{Writer}
use Rattle.glslpp_html.proofs.Characters.{chars_pushed, on_ok}
use Rattle.glslpp_html.proofs.Showing.{both_shown_more}

-- what `get` gives of a text from a byte where it may be cut, or the empty text
pub record IsPieceFrom (source : List ℕ) (from to : ℕ) (piece : List ℕ) : Type 0 where
  pub front : take (from + length piece) source ≡ take from source ++ piece
  pub within : from + length piece ≤ length source
  pub whole : to ≡ length source → from + length piece ≡ to

pub piece_from : (source : List ℕ) (from to : ℕ) (got : Option (Bor (List ℕ))) (empty : Bor (List ℕ)) → IsCharBoundary source from
    → GetsRange source from to got → empty.now ≡ [] → IsPieceFrom source from to (unwrap_or got empty).now
piece_from source from to None empty b h e =
    let none : length empty.now ≡ 0 = ap length e in
    let end = IsCharBoundary-end source in
    record {
      front = rw (e, add-zero) (sym (append-nil (take from source)));
      within = omega (arith, b.0);
      whole = λ all. absurd (h (omega (arith, b.0)) b (rw all end));
    }
piece_from source from to (Some piece) empty b h e =
    let sum : to - from ≡ length piece.now = omega (arith, h.1) in
    record {
      front = take-add from (length piece.now) source ∙ ap (λ p. take from source ++ p) (sym (h.0 ∙ ap (λ n. take n (drop from source)) sum));
      within = omega (arith, h.1, h.2);
      whole = λ all. omega (arith, h.1);
    }

-- a piece more
pub piece_written : (old new : Writer) (piece : List ℕ) (to : ℕ) → IsWritten old → ShowsMore (string_bytes old.text) (string_bytes new.text) (chars piece)
    → IsPieceFrom old.source.now old.done to piece → IsUtf8 piece → new.done ≡ old.done + length piece → new.source.now ≡ old.source.now → IsWritten new
piece_written old new piece to w h p is_text done source =
    let before : IsUtf8 (take old.done old.source.now) = IsUtf8-take old.source.now old.done w.is_text w.reached in
    let there : IsCharBoundary old.source.now (old.done + length piece) =
    IsCharBoundary-from_take old.source.now (old.done + length piece) w.is_text p.within (subst IsUtf8 (sym p.front) (IsUtf8-append _ piece before is_text)) in
    let shown : chars (take old.done old.source.now) ++ chars piece ≡ chars (take (old.done + length piece) old.source.now) =
    sym (ap chars p.front ∙ chars-append (take old.done old.source.now) piece before) in
    record {
      is_text = subst IsUtf8 (sym source) w.is_text;
      reached = rw (source, done) there;
      shows = rw (source, done, ← shown) (both_shown_more (string_bytes old.text) (string_bytes new.text) (chars piece) (chars (take old.done old.source.now)) w.shows h);
    }

-- a tag more
pub tag_written : {T E : Type 0} (r : Result T E) (old new : Writer) → IsWritten old → new.done ≡ old.done → new.source.now ≡ old.source.now
    → OnOk r (ShowsMore (string_bytes old.text) (string_bytes new.text) []) → OnOk r (IsWritten new)
tag_written r old new w done source = on_ok r _ _ (λ (h : ShowsMore (string_bytes old.text) (string_bytes new.text) []). record {
  is_text = rw source w.is_text;
  reached = rw (source, done) w.reached;
  shows = rw (source, done) (subst (Shows (chars (string_bytes new.text))) (append-nil (chars (take old.done old.source.now)))
      (both_shown_more (string_bytes old.text) (string_bytes new.text) [] (chars (take old.done old.source.now)) w.shows h));
})

pub none_written : (writer : Writer) → IsUtf8 writer.source.now → writer.done ≡ 0 → string_bytes writer.text ≡ [] → IsWritten writer
none_written writer is_text done text = record {
  is_text = is_text;
  reached = rw done (IsCharBoundary-start writer.source.now is_text);
  shows = rw (done, text, chars-nil) nothing;
}

-- all of it behind a page
pub whole_written : {T E : Type 0} (r : Result T E) (old new : List ℕ) (writer : Writer) (source : List ℕ) → IsUtf8 old → IsWritten writer
    → writer.source.now ≡ source → writer.done ≡ length source
    → new ≡ (if is_ok r then old ++ string_bytes writer.text else old) → OnOk r (ShowsMore old new (chars source))
whole_written r old new writer source is_text w same done e =
    let shown : Shows (chars (string_bytes writer.text)) (chars source) =
    subst (λ t. Shows (chars (string_bytes writer.text)) (chars t)) (ap (take writer.done) same ∙ ap (λ n. take n source) done ∙ take-length source) w.shows in
    on_ok r _ _ (λ (h : chars new ≡ chars old ++ chars (string_bytes writer.text)). (chars (string_bytes writer.text), h, shown))
    (chars_pushed r old new (string_bytes writer.text) _ is_text e refl)

-- A text is included: the texts around the one that is read.
use Rattle.std.proofs.Common.{◌≡◌, ◌∙◌, ℕ, suc, ◌+◌, ◌≤◌, false, ◌||◌, List, [], ◌∷◌, length, refl, ap, arith, ne_eqb}
use Rattle.std.specs.Prelude.{◌==◌}
use Rattle.std.specs.List.{AllByRecursion as Each, list_any}
use Rattle.pp_lexer.specs.Spots.{spots_of}
use Rattle.pp_model.specs.Onward.{Onward}
use Rattle.pp_model.specs.Run.{items_by}
use Rattle.pp_model.specs.SourceReader.{Suspended, SourceReader, with_text}
use Rattle.pp_macros.specs.inner.Source.{SuspendedText, Source}
use Rattle.pp_directives.specs.inner.Suspending.{including}
use Rattle.pp_directives.proofs.EndedLemmas.{start_ended}
use Rattle.pp_directives.proofs.ErrorsShownLemmas.{start_shown}
use Rattle.pp_directives.proofs.LinedLemmas.{items_lined}
use Rattle.pp_rs.specs.inner.Stands.{reading, StandForTexts, StandsForReader, StandsOnward}
use Rattle.pp_rs.proofs.source.EndSimulates.{same_earlier_at}

-- texts that stand for others are as many
deep_texts : (kept : List SuspendedText) (there : List Suspended) → StandForTexts kept there → length kept ≡ length there
deep_texts [] [] s = refl
deep_texts [] (other ∷ others) s = absurd s
deep_texts (text ∷ texts) [] s = absurd s
deep_texts (text ∷ texts) (other ∷ others) s = ap suc (deep_texts texts others s.1)

-- around a source are as many texts as around the reader that it stands for
pub as_deep : {s : Source} {r : SourceReader} → StandsForReader s r → length s.around ≡ length r.around
as_deep {s} {r} stands = deep_texts s.around r.around stands.around

-- at the start of a text that is included the source stands for the reader there
reader_included : (s : Source) (r : SourceReader) (text : List ℕ) → StandsForReader s r
    → StandsForReader (including text s) (with_text (items_by s.rules text) r)
reader_included s r text stands = record {
  rules = stands.rules;
  here = reading _ _ (record {
    text = ap (λ n. n + 1) stands.contents;
    rest = refl;
    within = omega arith;
    line_offset = refl;
    lined = items_lined s.rules text;
    ended = start_ended s.rules (spots_of text);
    shown = start_shown s.rules (spots_of text);
    lines = λ after. refl;
    blocks = record { dead = []; own = []; split = refl; count = refl; not_live = λ some. absurd (some refl); stand = tt };
    truths = tt;
    unfinished = refl;
    remembers_text = refl;
    remembers_directive = refl;
    directives = λ after. refl;
    off_line = λ live left. refl;
  });
  around = (stands.here, stands.around);
  earlier = same_earlier_at stands;
  definitions = stands.definitions;
  contents = ap (λ n. n + 1) stands.contents;
  unspent = stands.unspent;
}

-- no text that comes later is dead
none_later : (n : ℕ) (dead : List ℕ) → Each (λ text. text ≤ n) dead → list_any (λ text. text == n + 1) dead ≡ false
none_later n [] known = refl
none_later n (text ∷ texts) known =
    ap (λ found. found || list_any (λ t. t == n + 1) texts) (ne_eqb text (n + 1) (λ e. absurd (omega (arith, known.0, e)))) ∙ none_later n texts known.1

-- nor does one more text change which are known
pub known_more : (n : ℕ) (dead : List ℕ) → Each (λ text. text ≤ n) dead → Each (λ text. text ≤ n + 1) dead
known_more n [] known = tt
known_more n (text ∷ texts) known = (omega (arith, known.0), known_more n texts known.1)

pub stands_included : (s : Source) (o : Onward) (text : List ℕ) → StandsOnward s o
    → StandsOnward (including text s) (record o { reader = with_text (items_by s.rules text) o.reader })
stands_included s o text stands = record {
  reader = reader_included s o.reader text stands.reader;
  dead = (none_later s.contents o.dead stands.known, stands.dead);
  numbered = (omega (arith, stands.read), stands.numbered);
  read = omega arith;
  known = known_more s.contents o.dead stands.known;
}

-- A text with other items from its position on: it stands for the same text with these.
use Rattle.std.proofs.Common.{◌≡◌, ◌≢◌, ◌∙◌, ◌||◌, List, [], ◌++◌, length, take, drop, refl, sym, ap, subst, arith, length-append}
use Rattle.std.proofs.Math.Seq.{drop-append_seam}
use Rattle.std.proofs.lemmas.List.{take-append-drop, length-take-le}
use Rattle.pp_lexer.specs.Lexed.{Seen}
use Rattle.pp_model.specs.Blocks.{block_lines, blocks_at}
use Rattle.pp_model.specs.SourceReader.{Suspended, has_directive}
use Rattle.pp_directives.specs.inner.Lined.{AreLined, AreEnded, ShowErrors}
use Rattle.pp_macros.specs.inner.Source.{SuspendedText}
use Rattle.pp_rs.specs.inner.StandsPast.{dead_count}
use Rattle.pp_rs.specs.inner.Stands.{StandsForText}
use Rattle.pp_rs.proofs.blocks.FrontLemmas.{SameFront, same_front, text_same, directive_same, line_same}
use Rattle.pp_rs.proofs.blocks.PastLemmas.{past_elsewhere}
use Rattle.pp_rs.proofs.source.JoinLemmas.{Follow, lined_joined, ended_joined, shown_joined}

-- the text with these items from its position on, of which all blocks that stay open are still to be reported
abbrev pub with_rest : List Seen → Suspended → Suspended
with_rest rest there =
    let items = take there.position there.items ++ rest in
    record there { items = items; unfinished = length (blocks_at items (length items)) }

module _ {kept : SuspendedText} {there : Suspended} (s : StandsForText kept there) (rest : List Seen) where
  abbrev others : List Seen
  others = take there.position there.items ++ rest

  same : SameFront there.position others there.items
  same = same_front there.position there.items rest s.within

  front_long : length (take there.position there.items) ≡ there.position
  front_long = length-take-le there.position there.items s.within

  rest_there : rest ≡ drop there.position others
  rest_there = sym (ap (λ k. drop k others) (sym front_long) ∙ drop-append_seam (take there.position there.items) rest)

  whole : take there.position there.items ++ drop there.position there.items ≡ there.items
  whole = take-append-drop there.position there.items

  pub rest_replaced : kept.rest ≢ [] → Follow (take there.position there.items) rest → AreLined rest → AreEnded rest → ShowErrors rest
      → StandsForText (record kept { rest = rest }) (with_rest rest there)
  rest_replaced some follow lined ended shown = record {
    text = s.text;
    rest = rest_there;
    within = omega (arith, front_long, length-append (take there.position there.items) rest);
    line_offset = s.line_offset;
    lined = lined_joined (take there.position there.items) (drop there.position there.items) rest (subst AreLined (sym whole) s.lined) lined follow;
    ended = ended_joined (take there.position there.items) (drop there.position there.items) rest (subst AreEnded (sym whole) s.ended) ended follow;
    shown = shown_joined (take there.position there.items) (drop there.position there.items) rest (subst ShowErrors (sym whole) s.shown) shown;
    lines = λ after. ap (λ front. block_lines 0 (front ++ after)) same ∙ s.lines after
        ∙ ap (λ front. block_lines 0 front ++ block_lines there.position after) (sym same);
    blocks = past_elsewhere there.items others there.truths there.position (sym same) (dead_count kept.dead_for_good) kept.blocks s.blocks;
    truths = s.truths;
    unfinished = refl;
    remembers_text = s.remembers_text ∙ sym (text_same others there.items there.position same there.truths there.position (omega arith));
    remembers_directive = s.remembers_directive ∙ sym (directive_same others there.items there.position same there.position (omega arith));
    directives = λ after. ap (λ front. has_directive (front ++ after)) same ∙ s.directives after
        ∙ ap (λ front. has_directive front || has_directive after) (sym same);
    off_line = λ live left. line_same others there.items there.position same there.position (omega arith) ∙ s.off_line live some;
  }

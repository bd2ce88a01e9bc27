-- The end of a text, at which each open block is reported first, is the end of its reader, or reading goes on around it.
use Rattle.std.proofs.Common.{◌≡◌, ◌∙◌, ℕ, ◌-◌, ◌≤◌, false, ◌&&◌, List, [], ◌∷◌, ◌++◌, length, take, drop, refl, ap, sym, subst, append_assoc, Option, Some, None, arith, length-drop, length-append}
use Rattle.std.specs.Prelude.{Err, is_none}
use Rattle.std.proofs.Math.Seq.{take-append_seam}
use Rattle.std.proofs.lemmas.List.{take_all, take-take, length-take-le}
use Rattle.pp_lexer.specs.declared.token.PreprocessorError.TheVariants.{UnfinishedBlock}
use Rattle.pp_lexer.specs.declared.token.Token.{Token}
use Rattle.pp_model.specs.Places.{PlacedFault, placed}
use Rattle.pp_model.specs.Blocks.{Block, blocks_at, innermost}
use Rattle.pp_model.specs.SourceReader.{Suspended, SourceReader, suspended_of, has_directive, has_live_text_before, earlier_of}
use Rattle.pp_model.specs.SourceReader.{resumed as reader_resumed}
use Rattle.pp_model.specs.Acts.{Acted, leave, end_by, outcome_at, pause_at}
use Rattle.pp_model.specs.Onward.{act_on, is_of_items}
use Rattle.pp_model.specs.Reads.{Does}
use Rattle.pp_lexer.specs.declared.token.Location.{Location}
use Rattle.std.proofs.lemmas.Bool.{le-ltb}
use Rattle.pp_model.specs.Emitting.{answers_at, expansion_limit}
use Rattle.pp_model.specs.declared.outcome.Outcome.TheVariants as outcome
use Rattle.pp_model.specs.declared.read.Taken.{Taken}
use Rattle.pp_model.specs.declared.read.Taken.TheVariants as taken
use Rattle.pp_macros.specs.Item.{PlacedStep}
use Rattle.pp_macros.specs.inner.OpenBlocks.{last_block, outer_blocks}
use Rattle.pp_macros.specs.declared.blocks.OpenBlock.{OpenBlock}
use Rattle.pp_macros.specs.inner.Source.{SuspendedText, Source, Ends, had_text, had_directive, resumed}
use Rattle.pp_directives.specs.inner.Suspending.{suspended}
use Rattle.pp_macros.specs.declared.step.PlacedExit.TheVariants.{Finished}
use Rattle.pp_rs.specs.inner.StandsPast.{dead_count, StandPast}
use Rattle.pp_rs.specs.inner.Stands.{StandsForText, StandsAt, reading, reported, StandForTexts, StandsForReader}
use Rattle.pp_rs.proofs.blocks.BlockStackLemmas.{innermost_last}
use Rattle.pp_rs.proofs.blocks.PastLemmas.{own_past, last_past, none_past_dead}
use Rattle.pp_rs.proofs.source.Simulates.{acts_past, GoesOn, went, Simulated, SimulatesIn}

-- ---- what stands for a text, also once blocks of it were reported

pub record Remembers (kept : SuspendedText) (there : Suspended) : Type 0 where
  pub text : there.text ≡ kept.text
  pub line_offset : there.line_offset ≡ kept.line_offset
  pub has_text : kept.has_text ≡ has_live_text_before there.items there.truths there.position
  pub has_directive : kept.has_directive ≡ has_directive (take there.position there.items)

pub remembers : {kept : SuspendedText} {there : Suspended} → StandsAt kept there → Remembers kept there
remembers (reading kept there s) = record { text = s.text; line_offset = s.line_offset; has_text = s.remembers_text; has_directive = s.remembers_directive }
remembers (reported last kept there others those s over found same after) =
    let m = remembers s in
    subst (λ (other : SuspendedText). Remembers other those) (sym same)
    (subst (λ (t : Suspended). Remembers (record kept { blocks = outer_blocks kept.blocks }) t) (sym after)
    (record { text = m.text; line_offset = m.line_offset; has_text = m.has_text; has_directive = m.has_directive }))

-- at the end of a text the kept blocks stand for those that are still to be reported
pub record AtEnd (kept : SuspendedText) (there : Suspended) : Type 0 where
  pub over : drop there.position there.items ≡ []
  pub within : there.unfinished ≤ length (blocks_at there.items (length there.items))
  pub stand : StandPast (dead_count kept.dead_for_good) there.items there.truths kept.blocks
      (take there.unfinished (blocks_at there.items (length there.items)))

one_less : {X : Type 0} (n : ℕ) (xs front : List X) (x : X) → n ≤ length xs → take n xs ≡ front ++ x ∷ [] → take (n - 1) xs ≡ front
one_less n xs front x within e =
    let long : length (front ++ x ∷ []) ≡ n = ap length (sym e) ∙ length-take-le n xs within in
    let less : n - 1 ≡ length front = omega (arith, long, length-append front (x ∷ [])) in
    sym (take-take (n - 1) n xs (omega arith)) ∙ ap (take (n - 1)) e ∙ ap (λ k. take k (front ++ x ∷ [])) less ∙ take-append_seam front (x ∷ [])

reading_end : (kept : SuspendedText) (there : Suspended) → StandsForText kept there → kept.rest ≡ [] → AtEnd kept there
reading_end kept there s over =
    let n : length (drop there.position there.items) ≡ 0 = ap length (sym s.rest ∙ over) in
    let end : there.position ≡ length there.items = omega (arith, n, length-drop there.position there.items, s.within) in
    record {
      over = sym s.rest ∙ over;
      within = omega (arith, s.unfinished);
      stand = subst (λ (blocks : List Block). StandPast (dead_count kept.dead_for_good) there.items there.truths kept.blocks blocks)
          (sym (take_all there.unfinished (blocks_at there.items (length there.items)) (omega (arith, s.unfinished))
          ∙ ap (blocks_at there.items) (sym end))) s.blocks;
    }

reported_end : (last : OpenBlock) (kept : SuspendedText) (there : Suspended) → AtEnd kept there → last_block kept.blocks ≡ Some last
    → AtEnd (record kept { blocks = outer_blocks kept.blocks }) (record there { unfinished = there.unfinished - 1 })
reported_end last kept there s found =
    let all = blocks_at there.items (length there.items) in
    let i = last_past there.items there.truths (dead_count kept.dead_for_good) kept.blocks (take there.unfinished all) s.stand last found in
    let own : s.stand.own ≡ i.before ++ i.block ∷ [] =
    sym (own_past there.items there.truths (dead_count kept.dead_for_good) kept.blocks (take there.unfinished all) s.stand) ∙ i.split in
    record {
      over = s.over;
      within = omega (arith, s.within);
      stand = record {
        dead = s.stand.dead;
        own = i.before;
        split = one_less there.unfinished all (s.stand.dead ++ i.before) i.block s.within
            (s.stand.split ∙ ap (λ found. s.stand.dead ++ found) own ∙ sym (append_assoc s.stand.dead i.before (i.block ∷ [])));
        count = s.stand.count;
        not_live = s.stand.not_live;
        stand = i.around;
      };
    }

pub at_end : {kept : SuspendedText} {there : Suspended} → StandsAt kept there → kept.rest ≡ [] → AtEnd kept there
at_end (reading kept there s) over = reading_end kept there s over
at_end (reported last kept there others those s over found same after) none =
    subst (λ (other : SuspendedText). AtEnd other those) (sym same)
    (subst (λ (t : Suspended). AtEnd (record kept { blocks = outer_blocks kept.blocks }) t) (sym after)
    (reported_end last kept there (at_end s over) found))

-- ---- the end of the text that is read

-- around no text stands none
no_texts_stand : (texts : List Suspended) → StandForTexts [] texts → texts ≡ []
no_texts_stand [] s = refl
no_texts_stand (there ∷ others) s = absurd s

module _ {old : Source} {r : SourceReader} (s : StandsForReader old r) (none : old.rest ≡ []) where
  end : AtEnd (suspended old) (suspended_of r)
  end = at_end s.here none

  abbrev n : ℕ
  n = dead_count old.dead_for_good

  acts_end : acts_past n r ≡ end_by (innermost (drop n (take r.unfinished (blocks_at r.items (length r.items))))) r
  acts_end = ap (λ rest. act_on n rest r) end.over

  last_acts : last_block old.blocks ≡ None → acts_past n r ≡ leave r.around r
  last_acts found = acts_end ∙ ap (λ (blocks : List Block). end_by (innermost blocks) r)
      (none_past_dead r.items r.truths n old.blocks (take r.unfinished (blocks_at r.items (length r.items))) end.stand found)

  went_by : (acted : Acted) {given : Option Taken} {t : SourceReader} → acts_past n r ≡ acted
      → Does (answers_at expansion_limit) r acted.step acted.after given t → is_of_items r given ≡ false → GoesOn n r given t
  went_by acted {given} {t} a does quiet =
      went (subst (λ (found : Acted). Does (answers_at expansion_limit) r found.step found.after given t) (sym a) does) quiet

  -- no item is left, so a fault isn't of one
  pub not_of_items : (fault : PlacedFault) → is_of_items r (Some (taken.Fault fault)) ≡ false
  not_of_items fault =
      let over : length (drop r.position r.items) ≡ 0 = ap length end.over in
      ap (λ found. found && is_none fault.1.asks) (le-ltb r.position (length r.items) (omega (arith, over, length-drop r.position r.items)))

  module _ (move : PlacedStep Token) (new : Source) where
    -- in the outermost text the end is the reader's step, or the fault of the innermost block that is still open
    pub end_simulates : (last : Option OpenBlock) → last_block old.blocks ≡ last → (move ≡ Err Finished → old.around ≡ []) → Ends last old move new
        → SimulatesIn move old r new
    end_simulates None found outermost h =
        let outer : r.around ≡ [] = no_texts_stand r.around (subst (λ (texts : List SuspendedText). StandForTexts texts r.around) (outermost h.0) s.around) in
        rw h.0 (record {
          after = r;
          goes = went_by (outcome_at outcome.End r) (last_acts found ∙ ap (λ (around : List Suspended). leave around r) outer) (refl, refl) refl;
          stands = subst (λ (source : Source). StandsForReader source r) (sym h.1) s;
        })
    end_simulates (Some kept) found outermost h =
        let i = last_past r.items r.truths n old.blocks (take r.unfinished (blocks_at r.items (length r.items))) end.stand kept found in
        let shorter : SourceReader = record r { unfinished = r.unfinished - 1 } in
        let there : acts_past n r ≡ outcome_at (outcome.Fault (UnfinishedBlock, i.block.first.word)) shorter =
        acts_end ∙ ap (λ (blocks : List Block). end_by (innermost blocks) r) i.split ∙ ap (λ (b : Option Block). end_by b r) (innermost_last i.before i.block) in
        rw h.0 (record {
          after = shorter;
          goes = went_by (outcome_at (outcome.Fault (UnfinishedBlock, i.block.first.word)) shorter) there (
            ap (λ (text : ℕ). Some (taken.Fault (placed text (UnfinishedBlock, kept.word)))) (sym (remembers s.here).text)
                ∙ ap (λ (word : Location). Some (taken.Fault (placed r.text (UnfinishedBlock, word)))) (sym i.stands.word),
            refl,
          )
              (not_of_items (placed old.text (UnfinishedBlock, kept.word)));
          stands = subst (λ (source : Source). StandsForReader source shorter) (sym h.1) (record {
            rules = s.rules;
            here = reported kept (suspended old) (suspended_of r) (suspended (record old { blocks = outer_blocks old.blocks })) (suspended_of shorter)
                s.here none found refl refl;
            around = s.around;
            earlier = s.earlier;
            definitions = s.definitions;
            contents = s.contents;
            unspent = s.unspent;
          });
        })

-- what was read before is the same for both
pub same_earlier_at : {old : Source} {r : SourceReader} → StandsForReader old r
    → record { text = had_text old; directive = had_directive old } ≡ earlier_of r
same_earlier_at {old} {r} s =
    let m = remembers s.here in
    rw (s.earlier, m.has_text, m.has_directive) refl

module _ {old : Source} {r : SourceReader} (s : StandsForReader old r) (none : old.rest ≡ []) where
  -- at the end of an included text reading goes on in the text around it
  pub leaving_simulates : last_block old.blocks ≡ None → (outer : SuspendedText) (around : List SuspendedText) (new : Source)
      → old.around ≡ outer ∷ around → new ≡ resumed outer around old → Simulated None old r new
  leaving_simulates found outer around new is after =
      go r.around refl (subst (λ (texts : List SuspendedText). StandForTexts texts r.around) is s.around)
    where
      go : (texts : List Suspended) → r.around ≡ texts → StandForTexts (outer ∷ around) texts → Simulated None old r new
      go [] same stand = absurd stand
      go (there ∷ others) same stand = record {
        after = reader_resumed there others r;
        goes = went_by s none (pause_at (reader_resumed there others r))
            (last_acts s none found ∙ ap (λ (texts : List Suspended). leave texts r) same) (refl, refl) refl;
        stands = subst (λ (source : Source). StandsForReader source (reader_resumed there others r)) (sym after) (record {
          rules = s.rules;
          here = stand.0;
          around = stand.1;
          earlier = same_earlier_at s;
          definitions = s.definitions;
          contents = s.contents;
          unspent = s.unspent;
        });
      }

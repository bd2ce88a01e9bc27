-- Each step of a reader of an included text, or of the text around it, is one of the reader of both tops one text, but for the step
-- that leaves the included text: there the other stays.
use Rattle.std.proofs.Common.{◌≡◌, ◌∙◌, ℕ, ◌+◌, ◌-◌, ◌≤◌, ◌<◌, Bool, true, false, ◌&&◌, ◌||◌, List, [], ◌∷◌, ◌++◌, take, drop, length, refl, sym, ap, subst, ℤ, add-zero, add_assoc, length-drop, Option, Some, None, ◌⊎◌, inl, inr, arith}
use Rattle.std.specs.Prelude.{option_map}
use Rattle.std.proofs.Math.Bool.{or_assoc}
use Rattle.pp_lexer.specs.Lexed.{Seen}
use Rattle.std.proofs.lemmas.List.{drop_all, take_all}
use Rattle.std.proofs.lemmas.Bool.{true≢false, false≢true, cases_lt}
use Rattle.std.proofs.Math.Seq.{take-nil}
use Rattle.pp_lexer.specs.declared.rules.Rules.{Rules}
use Rattle.pp_lexer.specs.declared.token.Location.{Location}
use Rattle.pp_lexer.specs.declared.token.Token.{Token}
use Rattle.pp_model.specs.Acts.{Acted, act, perform, pause_at, advanced_by, end_by, end_at, leave, facts_here}
use Rattle.pp_model.specs.Blocks.{Truths, Block, blocks_at, innermost, is_live}
use Rattle.pp_model.specs.Calls.{Answers}
use Rattle.pp_model.specs.Definitions.{Definitions}
use Rattle.pp_model.specs.IncludeLaws.{has_line_directive, numbers_lines}
use Rattle.pp_model.specs.Moves.{BlockFacts, Move, move_at, ends, renumbers}
use Rattle.pp_model.specs.Reads.{Does, Steps}
use Rattle.pp_model.specs.Sights.{sight_of}
use Rattle.pp_model.specs.SourceReader.{Suspended, Earlier, SourceReader, has_directive, has_live_text_before, had_text, had_directive, is_first_directive, suspended_of, earlier_of, with_text, resumed}
use Rattle.pp_model.specs.inner.Alike.{AlikeDefinitions}
use Rattle.pp_lexer.specs.declared.token.PreprocessorError.TheVariants.{UnfinishedBlock}
use Rattle.pp_model.specs.declared.outcome.Outcome.TheVariants as outcome
use Rattle.pp_model.specs.declared.read.Taken.{Taken}
use Rattle.pp_model.proofs.including.Insertion.{Agree, Fits}
use Rattle.pp_model.proofs.including.InsertLemmas.{drop_within, drop_behind}
use Rattle.pp_model.proofs.including.LineFrontLemmas.{HasLine, line_from}
use Rattle.pp_model.proofs.including.MoveFrontLemmas.{move_front}
use Rattle.pp_model.proofs.including.MoveLemmas.{move_within, move_any_facts, ends_at_end}
use Rattle.pp_model.proofs.including.RenumberingLemmas.{renumbers_in_line, no_line_at}
use Rattle.pp_model.proofs.including.InsertedBlocksLemmas.{live_before, live_within, live_behind, facts_within, facts_behind, parting_is_inside, none_unfinished, unfinished_behind}
use Rattle.pp_model.proofs.including.TextBeforeLemmas.{text_within, text_behind, directive_within, directive_behind, text_grows, directive_grows, text_decided, live_decided}
use Rattle.pp_model.proofs.including.AgreeLemmas.{noted, agree_within, agree_behind}
use Rattle.pp_model.proofs.including.InsertedReaders.{Stacks, same_stack, in_stack, behind_stack, under, InText, BehindText, SameText, Related, in_text, behind_text, same_text, same_rules}
use Rattle.pp_model.proofs.including.SameStepLemmas.{AlikeConditions, AlikeNumbers, Followed, KnownSame, passed, given, same_effect}

-- the move of what is at a reader's position
abbrev pub move_of : SourceReader → Move
move_of r = move_at r.rules (is_live r.items r.truths r.position) (facts_here r) (sight_of (drop r.position r.items)) (drop r.position r.items)

-- the move of what is at the front of items, by all that it hangs on
same_moves : (rules rules2 : Rules) (live live2 : Bool) (f g : Option BlockFacts) (xs ys : List Seen) → rules ≡ rules2 → live ≡ live2 → f ≡ g → xs ≡ ys
    → move_at rules live f (sight_of xs) xs ≡ move_at rules2 live2 g (sight_of ys) ys
same_moves rules rules2 live live2 f g xs ys a b c d = rw (a, b, c, d) refl

-- a first directive is one before which neither a directive nor text came
same_first : (r s : SourceReader) → had_text r ≡ had_text s → had_directive r ≡ had_directive s → is_first_directive r ≡ is_first_directive s
same_first r s text directive = rw (text, directive) refl

-- what was read in a text before is the same, too
same_earlier : (r s : SourceReader) → had_text r ≡ had_text s → had_directive r ≡ had_directive s → earlier_of r ≡ earlier_of s
same_earlier r s text directive =
    ap (λ b. let e : Earlier = record { text = b; directive = had_directive r } in e) text
    ∙ ap (λ b. let e : Earlier = record { text = had_text s; directive = b } in e) directive

-- what came in three parts, of which the first is known of the last, too
known_again : (b x y z : Bool) → (x ≡ true → z ≡ true) → (b || (x || y)) || z ≡ b || (z || y)
known_again true x y z h = refl
known_again false true y z h = sym (rw (h refl) refl)
known_again false false true true h = refl
known_again false false true false h = refl
known_again false false false true h = refl
known_again false false false false h = refl

-- what is known of what came before adds nothing to it
known_before : (x y : Bool) → (y ≡ true → x ≡ true) → x ≡ x || y
known_before true y h = refl
known_before false true h = h refl
known_before false false h = refl

-- what came before is kept
or_left : (x y : Bool) → x ≡ true → x || y ≡ true
or_left true y h = refl
or_left false y h = absurd (false≢true h)

or_right : (x y : Bool) → y ≡ true → x || y ≡ true
or_right true y h = refl
or_right false y h = h

-- with more before, stacks are the same
stacks_grow : (M X : List Seen) (q : ℕ) (before after : Earlier) (tops wholes : List Suspended) → (before.text ≡ true → after.text ≡ true)
    → (before.directive ≡ true → after.directive ≡ true) → Stacks M X q before tops wholes → Stacks M X q after tops wholes
stacks_grow M X q before after tops wholes text directive (same_stack tops1 wholes1 same) = same_stack tops wholes same
stacks_grow M X q before after tops wholes text directive (in_stack f outer g tops1 wholes1 rest frames t d i j) =
    in_stack f outer g tops wholes rest frames (λ h. text (t h)) (λ h. directive (d h)) i j
stacks_grow M X q before after tops wholes text directive (behind_stack f g tops1 wholes1 rest frames t d i j) =
    behind_stack f g tops wholes rest frames (λ h. text (t h)) (λ h. directive (d h)) i j
stacks_grow M X q before after tops wholes text directive (under f g tops1 wholes1 below whole_below frames more i j) =
    under f g tops wholes below whole_below frames (stacks_grow M X q before after below whole_below text directive more) i j

-- at the end of a text's items
end_move : (r : SourceReader) → drop r.position r.items ≡ [] → act r ≡ end_at r
end_move r none =
    ap (λ m. perform m r)
    (same_moves r.rules r.rules (is_live r.items r.truths r.position) (is_live r.items r.truths r.position) (facts_here r) (facts_here r) (drop r.position r.items) []
    refl refl refl none)

module _ (A : Answers) (conditions : AlikeConditions A) (numbers : AlikeNumbers A) (M X : List Seen) (q : ℕ) (fits : Fits M X q)
    (no_line : has_line_directive X ≡ false) where
  abbrev Alike : SourceReader → SourceReader → Type 0
  Alike = Related M X q

  abbrev Follows : SourceReader → Option Taken → SourceReader → Type 0
  Follows s o t = Followed A conditions numbers Alike s (act s) o t

  abbrev Known : SourceReader → SourceReader → ℕ → Type 0
  Known r s count = KnownSame A conditions numbers Alike r s count

  -- a reader follows if its move is the same, and what is known
  by_move : (r s : SourceReader) (o : Option Taken) (t : SourceReader) → move_of s ≡ move_of r → Known r s (move_of r).taken → ((move_of r).effect ≡ ends → ⊥)
      → ((word : Location) (tokens : List Token) (offset : ℤ) → (move_of r).effect ≡ renumbers word tokens
      → Alike (record (advanced_by (move_of r).taken r) { line_offset = offset }) (record (advanced_by (move_of r).taken s) { line_offset = offset }))
      → Steps A r o t
      → Follows s o t
  by_move r s o t same known going numbered steps =
      subst (λ m. Followed A conditions numbers Alike s (perform m s) o t) (sym same)
      (same_effect A conditions numbers Alike r s (move_of r).taken known o t (move_of r).effect going numbered steps)

  -- in the included text
  module _ (r s : SourceReader) (i : InText M X q r s) where
    text_here : had_text r ≡ s.earlier.text || (has_live_text_before M i.outer.truths q || has_live_text_before X r.truths r.position)
    text_here =
        ap (λ (items : List Seen). r.earlier.text || has_live_text_before items r.truths r.position) i.frames.items
        ∙ ap (λ b. b || has_live_text_before X r.truths r.position) i.text
        ∙ or_assoc s.earlier.text (has_live_text_before M i.outer.truths q) (has_live_text_before X r.truths r.position)

    directive_here : had_directive r ≡ s.earlier.directive || (has_directive (take q M) || has_directive (take r.position X))
    directive_here =
        ap (λ (items : List Seen). r.earlier.directive || has_directive (take r.position items)) i.frames.items
        ∙ ap (λ b. b || has_directive (take r.position X)) i.directive
        ∙ or_assoc s.earlier.directive (has_directive (take q M)) (has_directive (take r.position X))

    pub same_text_here : had_text r ≡ had_text s
    same_text_here = text_here ∙ ap (λ b. s.earlier.text || b) (sym whole_text)
      where
        whole_text : has_live_text_before s.items s.truths s.position ≡ has_live_text_before M i.outer.truths q || has_live_text_before X r.truths r.position
        whole_text =
            rw (i.frames.whole, i.frames.position)
            (text_within M X q fits i.outer.truths r.truths s.truths (live_before M X q fits i.outer.truths r.truths s.truths i.frames.agree)
            (live_within M X q fits i.outer.truths r.truths s.truths i.frames.agree) (live_behind M X q fits i.outer.truths r.truths s.truths i.frames.agree)
            i.frames.live r.position i.frames.within)

    pub same_directive_here : had_directive r ≡ had_directive s
    same_directive_here = directive_here ∙ ap (λ b. s.earlier.directive || b) (sym whole_directive)
      where
        whole_directive : has_directive (take s.position s.items) ≡ has_directive (take q M) || has_directive (take r.position X)
        whole_directive =
            rw (i.frames.whole, i.frames.position) (directive_within M X q fits r.position i.frames.within)

    -- further on in it, with these truths
    within_on : (count : ℕ) (d d2 : Definitions) (truths truths2 : Truths) → r.position + count ≤ length X → AlikeDefinitions d d2
        → Agree q (length X) i.outer.truths truths truths2
        → Alike (record (advanced_by count r) { definitions = d; truths = truths }) (record (advanced_by count s) { definitions = d2; truths = truths2 })
    within_on count d d2 truths truths2 within alike agree = in_text (record {
      both = record { rules = i.both.rules; definitions = alike };
      outer = i.outer;
      around = i.around;
      frames = record {
        items = i.frames.items;
        outer_items = i.frames.outer_items;
        outer_position = i.frames.outer_position;
        offset = i.frames.offset;
        outer_offset = i.frames.outer_offset;
        outer_unfinished = i.frames.outer_unfinished;
        whole = i.frames.whole;
        within = within;
        position = omega (arith, i.frames.position);
        agree = agree;
        live = i.frames.live;
      };
      text = i.text;
      directive = i.directive;
    })

    -- before its end
    module _ (more : r.position < length X) where
      rest : drop r.position r.items ≡ drop r.position X
      rest = ap (drop r.position) i.frames.items

      whole_rest : drop s.position s.items ≡ drop r.position X ++ drop q M
      whole_rest = rw (i.frames.whole, i.frames.position) (drop_within M X q r.position fits.within i.frames.within)

      same_live : is_live s.items s.truths s.position ≡ is_live r.items r.truths r.position
      same_live =
          rw (i.frames.whole, i.frames.position, i.frames.items)
          (live_within M X q fits i.outer.truths r.truths s.truths i.frames.agree r.position i.frames.within
          ∙ ap (λ b. b && is_live X r.truths r.position) i.frames.live)

      same_facts : (blocks_at X r.position ≡ []) ⊎ (facts_here s ≡ facts_here r)
      same_facts =
          rw (i.frames.whole, i.frames.position, i.frames.items)
          (facts_within M X q fits i.outer.truths r.truths s.truths i.frames.agree r.position i.frames.within i.frames.live)

      has_line : HasLine (drop r.position X)
      has_line = line_from X r.position fits.whole_lines more

      facts_move : (blocks_at X r.position ≡ []) ⊎ (facts_here s ≡ facts_here r)
          → move_at r.rules (is_live r.items r.truths r.position) (facts_here s) (sight_of (drop r.position X)) (drop r.position X)
          ≡ move_at r.rules (is_live r.items r.truths r.position) (facts_here r) (sight_of (drop r.position X)) (drop r.position X)
      facts_move (inl none) =
          move_any_facts r.rules (is_live r.items r.truths r.position) (facts_here s) (facts_here r) (drop r.position X)
          (parting_is_inside M X q fits r.position more none)
      facts_move (inr same) = ap (λ f. move_at r.rules (is_live r.items r.truths r.position) f (sight_of (drop r.position X)) (drop r.position X)) same

      -- the move is the same
      within_move : move_of s ≡ move_of r
      within_move =
          same_moves s.rules r.rules (is_live s.items s.truths s.position) (is_live r.items r.truths r.position) (facts_here s) (facts_here s)
          (drop s.position s.items) (drop r.position X ++ drop q M) (sym i.both.rules) same_live refl whole_rest
          ∙ move_front r.rules (is_live r.items r.truths r.position) (facts_here s) (drop r.position X) (drop q M) has_line
          ∙ facts_move same_facts
          ∙ same_moves r.rules r.rules (is_live r.items r.truths r.position) (is_live r.items r.truths r.position) (facts_here r) (facts_here r)
          (drop r.position X) (drop r.position r.items) refl refl refl (sym rest)

      taken_within : r.position + (move_of r).taken ≤ length X
      taken_within =
          let few : (move_of r).taken ≤ length (drop r.position r.items) =
          move_within r.rules (is_live r.items r.truths r.position) (facts_here r) (drop r.position r.items) (rw rest has_line) in
          let left : length (drop r.position r.items) ≡ length X - r.position = rw i.frames.items (length-drop r.position X) in
          omega (arith, few, left, more)

      known_within : Known r s (move_of r).taken
      known_within = record {
        here = in_text i;
        rules = i.both.rules;
        offset = i.frames.offset;
        definitions = i.both.definitions;
        text = same_text_here;
        first = same_first r s same_text_here same_directive_here;
        changed = λ d d2 alike. within_on (move_of r).taken d d2 r.truths s.truths taken_within alike i.frames.agree;
        after_condition = λ holds. within_on (move_of r).taken r.definitions s.definitions (noted r.position holds r.truths) (noted s.position holds s.truths)
            taken_within i.both.definitions
            (rw i.frames.position (agree_within q (length X) i.outer.truths r.truths s.truths i.frames.agree holds r.position more));
      }

      step_within : (o : Option Taken) (t : SourceReader) → Steps A r o t → Follows s o t
      step_within o t steps = by_move r s o t within_move known_within going numbered steps
        where
          going : (move_of r).effect ≡ ends → ⊥
          going e =
              let none : drop r.position r.items ≡ [] = ends_at_end r.rules (is_live r.items r.truths r.position) (facts_here r) (drop r.position r.items) e in
              let bad : HasLine [] = subst HasLine (sym rest ∙ none) has_line in
              cc

          numbered : (word : Location) (tokens : List Token) (offset : ℤ) → (move_of r).effect ≡ renumbers word tokens
              → Alike (record (advanced_by (move_of r).taken r) { line_offset = offset }) (record (advanced_by (move_of r).taken s) { line_offset = offset })
          numbered word tokens offset e =
              let is : numbers_lines (sight_of (drop r.position r.items)) ≡ true =
              renumbers_in_line r.rules (is_live r.items r.truths r.position) (facts_here r) (drop r.position r.items) word tokens e in
              let no : numbers_lines (sight_of (drop r.position r.items)) ≡ false = rw rest (no_line_at X r.position no_line) in
              absurd (true≢false (sym is ∙ no))

    -- at its end
    module _ (at_end : r.position ≡ length X) where
      nothing_left : drop r.position r.items ≡ []
      nothing_left = drop_all r.position r.items (omega (arith, at_end, ap (λ (items : List Seen). length items) i.frames.items))

      none_open : innermost (take r.unfinished (blocks_at r.items (length r.items))) ≡ None
      none_open =
          rw i.frames.items
          (ap (λ (blocks : List Block). innermost (take r.unfinished blocks)) (none_unfinished M X q fits)
          ∙ ap innermost (take-nil r.unfinished))

      leaves : act r ≡ pause_at (resumed i.outer s.around r)
      leaves = end_move r nothing_left ∙ ap (λ block. end_by block r) none_open ∙ ap (λ around. leave around r) i.around

      left : BehindText M X q (resumed i.outer s.around r) s
      left = record {
        both = record { rules = i.both.rules; definitions = i.both.definitions };
        around = refl;
        frames = record {
          items = i.frames.outer_items;
          whole = i.frames.whole;
          offset = i.frames.outer_offset;
          unfinished = i.frames.outer_unfinished;
          further = 0;
          position = omega (arith, i.frames.outer_position);
          whole_position = omega (arith, i.frames.position, at_end);
          inner = r.truths;
          agree = i.frames.agree;
          live = i.frames.live;
        };
        text_before = has_live_text_before M i.outer.truths q;
        text = text_here ∙ ap (λ (p : ℕ). s.earlier.text || (has_live_text_before M i.outer.truths q || has_live_text_before X r.truths p)) at_end;
        text_known = λ h. rw (add-zero q) h;
        directive_before = has_directive (take q M);
        directive = directive_here ∙ ap (λ (p : ℕ). s.earlier.directive || (has_directive (take q M) || has_directive (take p X))) at_end
            ∙ ap (λ (items : List Seen). s.earlier.directive || (has_directive (take q M) || has_directive items)) (take_all (length X) X (omega arith));
        directive_known = λ h. rw (add-zero q) h;
      }

      step_at_end : (o : Option Taken) (t : SourceReader) → Steps A r o t → (o ≡ None) × Alike t s
      step_at_end o t steps =
          let d : (o ≡ None) × (t ≡ resumed i.outer s.around r) = subst (λ (a : Acted). Does A r a.step a.after o t) leaves steps in
          (d.0, rw d.1 (behind_text left))

  -- what is left to read, and what a step needs of it, if it is not at its end
  module _ (r s : SourceReader) (first : Seen) (others : List Seen) (some : drop r.position r.items ≡ first ∷ others) where
    not_at_end : (move_of r).effect ≡ ends → ⊥
    not_at_end ended =
        let none : drop r.position r.items ≡ [] = ends_at_end r.rules (is_live r.items r.truths r.position) (facts_here r) (drop r.position r.items) ended in
        let bad : [] ≡ first ∷ others = sym none ∙ some in
        cc

  -- behind the included text
  module _ (r s : SourceReader) (b : BehindText M X q r s) where
    same_rest : drop s.position s.items ≡ drop r.position r.items
    same_rest = rw (b.frames.whole, b.frames.whole_position, b.frames.items, b.frames.position) (drop_behind M X q b.frames.further fits.within)

    behind_live : is_live s.items s.truths s.position ≡ is_live r.items r.truths r.position
    behind_live =
        rw (b.frames.whole, b.frames.whole_position, b.frames.items, b.frames.position)
        (live_behind M X q fits r.truths b.frames.inner s.truths b.frames.agree b.frames.further)

    behind_facts : facts_here s ≡ facts_here r
    behind_facts =
        rw (b.frames.whole, b.frames.whole_position, b.frames.items, b.frames.position)
        (facts_behind M X q fits r.truths b.frames.inner s.truths b.frames.agree b.frames.further)

    behind_move : move_of s ≡ move_of r
    behind_move =
        same_moves s.rules r.rules (is_live s.items s.truths s.position) (is_live r.items r.truths r.position) (facts_here s) (facts_here r)
        (drop s.position s.items) (drop r.position r.items) (sym b.both.rules) behind_live behind_facts same_rest

    pub same_text_behind : had_text r ≡ had_text s
    same_text_behind =
        rw (b.frames.whole, b.frames.whole_position, b.frames.items, b.frames.position, b.text)
        (known_again s.earlier.text b.text_before (has_live_text_before X b.frames.inner (length X)) (has_live_text_before M r.truths (q + b.frames.further)) b.text_known
        ∙ ap (λ x. s.earlier.text || x) (sym (text_behind M X q fits r.truths b.frames.inner s.truths
        (live_before M X q fits r.truths b.frames.inner s.truths b.frames.agree) (live_within M X q fits r.truths b.frames.inner s.truths b.frames.agree)
        (live_behind M X q fits r.truths b.frames.inner s.truths b.frames.agree) b.frames.live b.frames.further)))

    pub same_directive_behind : had_directive r ≡ had_directive s
    same_directive_behind =
        rw (b.frames.whole, b.frames.whole_position, b.frames.items, b.frames.position, b.directive)
        (known_again s.earlier.directive b.directive_before (has_directive X) (has_directive (take (q + b.frames.further) M)) b.directive_known
        ∙ ap (λ x. s.earlier.directive || x) (sym (directive_behind M X q fits b.frames.further)))

    -- further on, with other definitions, another line offset and fewer blocks to report
    further_on : (count : ℕ) (d d2 : Definitions) (offset : ℤ) (unfinished : ℕ) → AlikeDefinitions d d2
        → Alike (record (advanced_by count r) { definitions = d; line_offset = offset; unfinished = unfinished })
        (record (advanced_by count s) { definitions = d2; line_offset = offset; unfinished = unfinished })
    further_on count d d2 offset unfinished alike = behind_text (record {
      both = record { rules = b.both.rules; definitions = alike };
      around = b.around;
      frames = record {
        items = b.frames.items;
        whole = b.frames.whole;
        offset = refl;
        unfinished = refl;
        further = b.frames.further + count;
        position = omega (arith, b.frames.position);
        whole_position = omega (arith, b.frames.whole_position);
        inner = b.frames.inner;
        agree = b.frames.agree;
        live = b.frames.live;
      };
      text_before = b.text_before;
      text = b.text;
      text_known = λ h. rw (sym (add_assoc q b.frames.further count)) (text_grows M r.truths (q + b.frames.further) count (b.text_known h));
      directive_before = b.directive_before;
      directive = b.directive;
      directive_known = λ h. rw (sym (add_assoc q b.frames.further count)) (directive_grows M (q + b.frames.further) count (b.directive_known h));
    })

    known_behind : (count : ℕ) → Known r s count
    known_behind count = record {
      here = behind_text b;
      rules = b.both.rules;
      offset = b.frames.offset;
      definitions = b.both.definitions;
      text = same_text_behind;
      first = same_first r s same_text_behind same_directive_behind;
      changed = λ d d2 alike. rw (b.frames.offset, b.frames.unfinished) (further_on count d d2 s.line_offset s.unfinished alike);
      after_condition = λ holds. behind_text (record {
        both = record { rules = b.both.rules; definitions = b.both.definitions };
        around = b.around;
        frames = record {
          items = b.frames.items;
          whole = b.frames.whole;
          offset = b.frames.offset;
          unfinished = b.frames.unfinished;
          further = b.frames.further + count;
          position = omega (arith, b.frames.position);
          whole_position = omega (arith, b.frames.whole_position);
          inner = b.frames.inner;
          agree = rw (b.frames.position, b.frames.whole_position)
              (agree_behind q (length X) r.truths b.frames.inner s.truths b.frames.agree holds b.frames.further);
          live = rw b.frames.position (live_decided M r.truths (q + b.frames.further) holds q (omega arith) ∙ b.frames.live);
        };
        text_before = b.text_before;
        text = b.text;
        text_known = λ h. rw (b.frames.position, sym (add_assoc q b.frames.further count))
            (text_grows M (noted (q + b.frames.further) holds r.truths) (q + b.frames.further) count
            (text_decided M r.truths (q + b.frames.further) holds ∙ b.text_known h));
        directive_before = b.directive_before;
        directive = b.directive;
        directive_known = λ h. rw (sym (add_assoc q b.frames.further count)) (directive_grows M (q + b.frames.further) count (b.directive_known h));
      });
    }

    -- the end of the text, with the same block that stays open, or none
    ends_behind : (o : Option Taken) (t : SourceReader) (x y : Option Block) → option_map (λ (z : Block). z.first.word) y ≡ option_map (λ (z : Block). z.first.word) x
        → Does A r (end_by x r).step (end_by x r).after o t
        → Followed A conditions numbers Alike s (end_by y s) o t
    ends_behind o t (Some x) (Some y) same d =
        let word : y.first.word ≡ x.first.word = (let e = same in cc) in
        given A conditions numbers Alike r s 0 (known_behind 0) o t (outcome.Fault (UnfinishedBlock, x.first.word)) (outcome.Fault (UnfinishedBlock, y.first.word))
        (record r { unfinished = r.unfinished - 1 }) (record s { unfinished = s.unfinished - 1 }) (rw word refl) fewer d
      where
        fewer : Alike (record r { unfinished = r.unfinished - 1 }) (record s { unfinished = s.unfinished - 1 })
        fewer =
            rw (b.frames.unfinished, b.frames.offset)
            (rw (add-zero r.position, add-zero s.position) at (further_on 0 r.definitions s.definitions s.line_offset (s.unfinished - 1) b.both.definitions))
    ends_behind o t None None same d = ends_text s.around (sym b.around) d
      where
        ends_text : (around : List Suspended) → around ≡ r.around → Does A r (leave r.around r).step (leave r.around r).after o t
            → Followed A conditions numbers Alike s (leave around s) o t
        ends_text [] same d =
            given A conditions numbers Alike r s 0 (known_behind 0) o t outcome.End outcome.End r s refl (behind_text b)
            (subst (λ (around : List Suspended). Does A r (leave around r).step (leave around r).after o t) (sym same) d)
        ends_text (outer ∷ around) same d =
            passed A conditions numbers Alike r s 0 (known_behind 0) o t (resumed outer around r) (resumed outer around s)
            (same_text (record {
              both = record { rules = b.both.rules; definitions = b.both.definitions };
              frames = record { items = refl; position = refl; offset = refl; truths = refl; unfinished = refl };
              earlier = same_earlier r s same_text_behind same_directive_behind;
              around = same_stack around around refl;
            }))
            (subst (λ (around : List Suspended). Does A r (leave around r).step (leave around r).after o t) (sym same) d)
    ends_behind o t (Some x) None same d = cc
    ends_behind o t None (Some y) same d = cc

    step_behind : (o : Option Taken) (t : SourceReader) → Steps A r o t → Follows s o t
    step_behind o t steps = by_rest (drop r.position r.items) refl
      where
        at_end : drop r.position r.items ≡ [] → Follows s o t
        at_end none =
            let there : Does A r (end_at r).step (end_at r).after o t = subst (λ (a : Acted). Does A r a.step a.after o t) (end_move r none) steps in
            subst (λ (a : Acted). Followed A conditions numbers Alike s a o t) (sym (end_move s (same_rest ∙ none)))
            (ends_behind o t (innermost (take r.unfinished (blocks_at r.items (length r.items)))) (innermost (take s.unfinished (blocks_at s.items (length s.items))))
            (rw (b.frames.whole, b.frames.items, b.frames.unfinished)
            (unfinished_behind M X q fits s.unfinished)) there)

        by_rest : (rest : List Seen) → drop r.position r.items ≡ rest → Follows s o t
        by_rest [] none = at_end none
        by_rest (first ∷ others) some =
            by_move r s o t behind_move (known_behind (move_of r).taken) (not_at_end r s first others some)
            (λ word tokens offset e. rw b.frames.unfinished (further_on (move_of r).taken r.definitions s.definitions offset s.unfinished b.both.definitions)) steps

  -- in one more text
  module _ (r s : SourceReader) (e : SameText M X q r s) where
    pub text_same : had_text r ≡ had_text s
    text_same = rw (e.frames.items, e.frames.position, e.frames.truths, e.earlier) refl

    pub directive_same : had_directive r ≡ had_directive s
    directive_same = rw (e.frames.items, e.frames.position, e.earlier) refl

    move_same : move_of s ≡ move_of r
    move_same =
        same_moves s.rules r.rules (is_live s.items s.truths s.position) (is_live r.items r.truths r.position) (facts_here s) (facts_here r)
        (drop s.position s.items) (drop r.position r.items) (sym e.both.rules) (rw (e.frames.items, e.frames.position, e.frames.truths) refl)
        (rw (e.frames.items, e.frames.position, e.frames.truths) refl) (rw (e.frames.items, e.frames.position) refl)

    -- further on, with other definitions, truths, line offset and fewer blocks to report
    same_on : (count : ℕ) (d d2 : Definitions) (truths truths2 : Truths) (offset offset2 : ℤ) (unfinished unfinished2 : ℕ) → AlikeDefinitions d d2 → truths ≡ truths2
        → offset ≡ offset2 → unfinished ≡ unfinished2
        → Alike (record (advanced_by count r) { definitions = d; truths = truths; line_offset = offset; unfinished = unfinished })
        (record (advanced_by count s) { definitions = d2; truths = truths2; line_offset = offset2; unfinished = unfinished2 })
    same_on count d d2 truths truths2 offset offset2 unfinished unfinished2 alike t o u = same_text (record {
      both = record { rules = e.both.rules; definitions = alike };
      frames = record { items = e.frames.items; position = ap (λ p. p + count) e.frames.position; offset = o; truths = t; unfinished = u };
      earlier = e.earlier;
      around = e.around;
    })

    known_same : (count : ℕ) → Known r s count
    known_same count = record {
      here = same_text e;
      rules = e.both.rules;
      offset = e.frames.offset;
      definitions = e.both.definitions;
      text = text_same;
      first = same_first r s text_same directive_same;
      changed = λ d d2 alike. same_on count d d2 r.truths s.truths r.line_offset s.line_offset r.unfinished s.unfinished alike e.frames.truths e.frames.offset
          e.frames.unfinished;
      after_condition = λ holds. same_on count r.definitions s.definitions (noted r.position holds r.truths) (noted s.position holds s.truths)
          r.line_offset s.line_offset r.unfinished s.unfinished e.both.definitions (rw (e.frames.position, e.frames.truths) refl) e.frames.offset
          e.frames.unfinished;
    }

    -- behind its end reading goes on in the texts around
    goes_on : (o : Option Taken) (t : SourceReader) (f g : Suspended) (tops wholes below whole_below : List Suspended) → tops ≡ f ∷ below → wholes ≡ g ∷ whole_below
        → Alike (resumed f below r) (resumed g whole_below s)
        → Does A r (leave tops r).step (leave tops r).after o t
        → Followed A conditions numbers Alike s (leave wholes s) o t
    goes_on o t f g tops wholes below whole_below i j related d =
        subst (λ (around : List Suspended). Followed A conditions numbers Alike s (leave around s) o t) (sym j)
        (passed A conditions numbers Alike r s 0 (known_same 0) o t (resumed f below r) (resumed g whole_below s) related
        (subst (λ (around : List Suspended). Does A r (leave around r).step (leave around r).after o t) i d))

    earlier_same : earlier_of r ≡ earlier_of s
    earlier_same = same_earlier r s text_same directive_same

    -- what came before in the one reader came in the other
    text_kept : r.earlier.text ≡ true → had_text s ≡ true
    text_kept h = sym text_same ∙ or_left r.earlier.text (has_live_text_before r.items r.truths r.position) h

    directive_kept : r.earlier.directive ≡ true → had_directive s ≡ true
    directive_kept h = sym directive_same ∙ or_left r.earlier.directive (has_directive (take r.position r.items)) h

    leaves_same : (o : Option Taken) (t : SourceReader) (tops wholes : List Suspended) → Stacks M X q r.earlier tops wholes
        → Does A r (leave tops r).step (leave tops r).after o t
        → Followed A conditions numbers Alike s (leave wholes s) o t
    leaves_same o t tops wholes (same_stack tops1 wholes1 same) d = by_stack wholes same
      where
        by_stack : (wholes : List Suspended) → tops ≡ wholes → Followed A conditions numbers Alike s (leave wholes s) o t
        by_stack [] is =
            given A conditions numbers Alike r s 0 (known_same 0) o t outcome.End outcome.End r s refl (same_text e)
            (subst (λ (around : List Suspended). Does A r (leave around r).step (leave around r).after o t) is d)
        by_stack (outer ∷ around) is = goes_on o t outer outer tops (outer ∷ around) around around is refl (same_text (record {
          both = record { rules = e.both.rules; definitions = e.both.definitions };
          frames = record { items = refl; position = refl; offset = refl; truths = refl; unfinished = refl };
          earlier = earlier_same;
          around = same_stack around around refl;
        })) d
    leaves_same o t tops wholes (in_stack f outer g tops1 wholes1 rest frames text directive i j) d =
        goes_on o t f g tops wholes (outer ∷ rest) rest i j (in_text (record {
          both = record { rules = e.both.rules; definitions = e.both.definitions };
          outer = outer;
          around = refl;
          frames = frames;
          text = text_same ∙ known_before (had_text s) (has_live_text_before M outer.truths q) (λ h. text_kept (text h));
          directive = directive_same ∙ known_before (had_directive s) (has_directive (take q M)) (λ h. directive_kept (directive h));
        })) d
    leaves_same o t tops wholes (behind_stack f g tops1 wholes1 rest frames text directive i j) d =
        goes_on o t f g tops wholes rest rest i j (behind_text (record {
          both = record { rules = e.both.rules; definitions = e.both.definitions };
          around = refl;
          frames = frames;
          text_before = false;
          text = text_same ∙ known_before (had_text s) (has_live_text_before X frames.inner (length X)) (λ h. text_kept (text h));
          text_known = λ h. absurd (false≢true h);
          directive_before = false;
          directive = directive_same ∙ known_before (had_directive s) (has_directive X) (λ h. directive_kept (directive h));
          directive_known = λ h. absurd (false≢true h);
        })) d
    leaves_same o t tops wholes (under f g tops1 wholes1 below whole_below frames more i j) d =
        goes_on o t f g tops wholes below whole_below i j (same_text (record {
          both = record { rules = e.both.rules; definitions = e.both.definitions };
          frames = frames;
          earlier = earlier_same;
          around = stacks_grow M X q r.earlier (earlier_of r) below whole_below
              (or_left r.earlier.text (has_live_text_before r.items r.truths r.position))
              (or_left r.earlier.directive (has_directive (take r.position r.items))) more;
        })) d

    ends_same : (o : Option Taken) (t : SourceReader) (x : Option Block) → Does A r (end_by x r).step (end_by x r).after o t
        → Followed A conditions numbers Alike s (end_by x s) o t
    ends_same o t (Some x) d =
        given A conditions numbers Alike r s 0 (known_same 0) o t (outcome.Fault (UnfinishedBlock, x.first.word)) (outcome.Fault (UnfinishedBlock, x.first.word))
        (record r { unfinished = r.unfinished - 1 }) (record s { unfinished = s.unfinished - 1 }) refl
        (rw (add-zero r.position, add-zero s.position) at
        (same_on 0 r.definitions s.definitions r.truths s.truths r.line_offset s.line_offset (r.unfinished - 1) (s.unfinished - 1) e.both.definitions e.frames.truths
        e.frames.offset (ap (λ n. n - 1) e.frames.unfinished))) d
    ends_same o t None d = leaves_same o t r.around s.around e.around d

    step_same : (o : Option Taken) (t : SourceReader) → Steps A r o t → Follows s o t
    step_same o t steps = by_rest (drop r.position r.items) refl
      where
        at_end : drop r.position r.items ≡ [] → Follows s o t
        at_end none =
            let there : Does A r (end_at r).step (end_at r).after o t = subst (λ (a : Acted). Does A r a.step a.after o t) (end_move r none) steps in
            let none_there : drop s.position s.items ≡ [] = rw (sym e.frames.items, sym e.frames.position) none in
            let open_there : innermost (take s.unfinished (blocks_at s.items (length s.items))) ≡ innermost (take r.unfinished (blocks_at r.items (length r.items))) =
            rw (e.frames.items, e.frames.unfinished) refl in
            subst (λ (a : Acted). Followed A conditions numbers Alike s a o t) (sym (end_move s none_there ∙ ap (λ block. end_by block s) open_there))
            (ends_same o t (innermost (take r.unfinished (blocks_at r.items (length r.items)))) there)

        by_rest : (rest : List Seen) → drop r.position r.items ≡ rest → Follows s o t
        by_rest [] none = at_end none
        by_rest (first ∷ others) some =
            by_move r s o t move_same (known_same (move_of r).taken) (not_at_end r s first others some)
            (λ word tokens offset is. same_on (move_of r).taken r.definitions s.definitions r.truths s.truths offset offset r.unfinished s.unfinished
            e.both.definitions e.frames.truths refl e.frames.unfinished) steps

  -- each step is one of the other reader, or leaves the included text
  pub step_related : (r s : SourceReader) (o : Option Taken) (t : SourceReader) → Alike r s → Steps A r o t → Follows s o t ⊎ ((o ≡ None) × Alike t s)
  step_related r s o t (in_text i) steps = by_order (cases_lt r.position (length X))
    where
      by_order : (r.position < length X) ⊎ (length X ≤ r.position) → Follows s o t ⊎ ((o ≡ None) × Alike t s)
      by_order (inl more) = inl (step_within r s i more o t steps)
      by_order (inr none) = inr (step_at_end r s i (omega (arith, none, i.frames.within)) o t steps)
  step_related r s o t (behind_text b) steps = inl (step_behind r s b o t steps)
  step_related r s o t (same_text e) steps = inl (step_same r s e o t steps)

  -- both read one more text: the texts around
  included_stacks : (r s : SourceReader) → Alike r s → (earlier_of r ≡ earlier_of s) × Stacks M X q (earlier_of r) (suspended_of r ∷ r.around) (suspended_of s ∷ s.around)
  included_stacks r s (in_text i) = (
    same_earlier r s (same_text_here r s i) (same_directive_here r s i),
    in_stack (suspended_of r) i.outer (suspended_of s) (suspended_of r ∷ r.around) (suspended_of s ∷ s.around) s.around i.frames
        (λ h. rw i.text (or_left (s.earlier.text || has_live_text_before M i.outer.truths q) (has_live_text_before r.items r.truths r.position)
        (or_right s.earlier.text (has_live_text_before M i.outer.truths q) h)))
        (λ h. rw i.directive (or_left (s.earlier.directive || has_directive (take q M)) (has_directive (take r.position r.items))
        (or_right s.earlier.directive (has_directive (take q M)) h)))
        (ap (λ around. suspended_of r ∷ around) i.around) refl,
  )
  included_stacks r s (behind_text b) = (
    same_earlier r s (same_text_behind r s b) (same_directive_behind r s b),
    behind_stack (suspended_of r) (suspended_of s) (suspended_of r ∷ r.around) (suspended_of s ∷ s.around) s.around b.frames
        (λ h. rw b.text (or_left (s.earlier.text || (b.text_before || has_live_text_before X b.frames.inner (length X))) (has_live_text_before r.items r.truths r.position)
        (or_right s.earlier.text (b.text_before || has_live_text_before X b.frames.inner (length X))
        (or_right b.text_before (has_live_text_before X b.frames.inner (length X)) h))))
        (λ h. rw b.directive (or_left (s.earlier.directive || (b.directive_before || has_directive X)) (has_directive (take r.position r.items))
        (or_right s.earlier.directive (b.directive_before || has_directive X) (or_right b.directive_before (has_directive X) h))))
        (ap (λ around. suspended_of r ∷ around) b.around) refl,
  )
  included_stacks r s (same_text e) = (
    same_earlier r s (text_same r s e) (directive_same r s e),
    under (suspended_of r) (suspended_of s) (suspended_of r ∷ r.around) (suspended_of s ∷ s.around) r.around s.around e.frames
        (stacks_grow M X q r.earlier (earlier_of r) r.around s.around (or_left r.earlier.text (has_live_text_before r.items r.truths r.position))
        (or_left r.earlier.directive (has_directive (take r.position r.items))) e.around)
        refl refl,
  )

  -- they are related in it, too
  pub related_included : (items : List Seen) (r s : SourceReader) → Alike r s → Alike (with_text items r) (with_text items s)
  related_included items r s related =
      let stacks = included_stacks r s related in
      same_text (record {
        both = record { rules = (same_rules M X q r s related).rules; definitions = (same_rules M X q r s related).definitions };
        frames = record { items = refl; position = refl; offset = refl; truths = refl; unfinished = refl };
        earlier = stacks.0;
        around = stacks.1;
      })

-- as many texts are around, or one more
pub no_deeper : (M X : List Seen) (q : ℕ) (earlier : Earlier) (tops wholes : List Suspended) → Stacks M X q earlier tops wholes → length wholes ≤ length tops
no_deeper M X q earlier tops wholes (same_stack tops1 wholes1 same) = rw same (omega arith)
no_deeper M X q earlier tops wholes (in_stack f outer g tops1 wholes1 rest frames text directive i j) =
    rw (i, j) (omega arith)
no_deeper M X q earlier tops wholes (behind_stack f g tops1 wholes1 rest frames text directive i j) = rw (i, j) (omega arith)
no_deeper M X q earlier tops wholes (under f g tops1 wholes1 below whole_below frames more i j) =
    rw (i, j) (omega (arith, no_deeper M X q earlier below whole_below more))

pub related_no_deeper : (M X : List Seen) (q : ℕ) (r s : SourceReader) → Related M X q r s → length s.around ≤ length r.around
related_no_deeper M X q r s (in_text i) = rw i.around (omega arith)
related_no_deeper M X q r s (behind_text b) = rw b.around (omega arith)
related_no_deeper M X q r s (same_text e) = no_deeper M X q r.earlier r.around s.around e.around

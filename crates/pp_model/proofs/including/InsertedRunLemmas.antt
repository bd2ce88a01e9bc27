-- Runs over an included text are runs over it as a part of the text around it.
use Rattle.std.proofs.Common.{◌≡◌, ◌∙◌, ℕ, ◌+◌, false, List, [], ◌∷◌, length, refl, sym, ap, subst, Option, Some, None, ◌⊎◌, inl, inr, arith}
use Rattle.std.specs.Str.{chars}
use Rattle.std.specs.List.{AllByRecursion as Each}
use Rattle.std.proofs.lemmas.Bool.{true≢false, leb-false, lt-leb}
use Rattle.pp_lexer.specs.Lexed.{Seen}
use Rattle.pp_lexer.specs.declared.rules.Rules.{Rules}
use Rattle.pp_lexer.specs.declared.token.Location.{Location}
use Rattle.pp_lexer.specs.declared.token.Token.{Token}
use Rattle.pp_model.specs.Acts.{act}
use Rattle.pp_model.specs.Calls.{Answers}
use Rattle.pp_model.specs.Definitions.{Definition, Definitions, object_like}
use Rattle.pp_model.specs.Emitting.{answers_at}
use Rattle.pp_model.specs.IncludeLaws.{has_line_directive, is_too_deep, with_inserted, IncludedIsInserted}
use Rattle.pp_model.specs.Painting.{item_of, fault_item}
use Rattle.pp_model.specs.Places.{Fault}
use Rattle.pp_model.specs.Reading.{Expander}
use Rattle.pp_model.specs.Reads as reads
use Rattle.pp_model.specs.Reads.{Steps, Reads, source_reading}
use Rattle.pp_model.specs.Run as run
use Rattle.pp_model.specs.Run.{Call, items_by, Gives, Runs, by_rules, with_added, with_included, without_end}
use Rattle.pp_model.specs.SourceReader.{SourceReader, suspended_of, include_limit, is_full}
use Rattle.pp_model.specs.inner.Alike.{Pairs, Both, AlikeTaken, AlikeEntry, AlikeDefinition, AlikeDefinitions, AlikeExpander, Follows}
use Rattle.pp_model.specs.declared.call.Reply.{Reply}
use Rattle.pp_model.specs.declared.outcome.IncludeLine.{IncludeLine}
use Rattle.pp_model.specs.declared.outcome.Outcome.TheVariants as outcome
use Rattle.pp_model.specs.declared.read.Taken.{Taken}
use Rattle.pp_model.specs.declared.read.Taken.TheVariants as taken
use Rattle.pp_model.specs.declared.splice.Entry.{Entry}
use Rattle.pp_model.specs.declared.splice.Entry.TheVariants.{Plain, End}
use Rattle.pp_model.proofs.including.Insertion.{Agree, Fits}
use Rattle.pp_model.proofs.including.WholeLinesLemmas.{items_are_whole}
use Rattle.pp_model.proofs.including.AgreeLemmas.{agree_before}
use Rattle.pp_model.proofs.including.SameStepLemmas.{Followed, alike_change}
use Rattle.pp_model.proofs.including.InsertedReaders.{Related, in_text, behind_text, same_text, same_offset, same_rules}
use Rattle.pp_model.proofs.including.InsertedStepLemmas.{step_related, related_included, related_no_deeper}
use Rattle.pp_model.proofs.including.AlikeLevelLemmas.{alike_emits}
use Rattle.pp_model.proofs.including.AlikeLineLemmas.{alike_condition, alike_line_number}

-- with other definitions they are related, too
related_changed : (M X : List Seen) (q : ℕ) (r s : SourceReader) (d d2 : Definitions) (contents contents2 : ℕ) → AlikeDefinitions d d2 → Related M X q r s
    → Related M X q (record r { definitions = d; contents = contents }) (record s { definitions = d2; contents = contents2 })
related_changed M X q r s d d2 contents contents2 alike (in_text i) = in_text (record {
  both = record { rules = i.both.rules; definitions = alike };
  outer = i.outer;
  around = i.around;
  frames = i.frames;
  text = i.text;
  directive = i.directive;
})
related_changed M X q r s d d2 contents contents2 alike (behind_text b) = behind_text (record {
  both = record { rules = b.both.rules; definitions = alike };
  around = b.around;
  frames = b.frames;
  text_before = b.text_before;
  text = b.text;
  text_known = b.text_known;
  directive_before = b.directive_before;
  directive = b.directive;
  directive_known = b.directive_known;
})
related_changed M X q r s d d2 contents contents2 alike (same_text e) = same_text (record {
  both = record { rules = e.both.rules; definitions = alike };
  frames = e.frames;
  earlier = e.earlier;
  around = e.around;
})

-- what is alike is one item
pub same_item : (x y : Taken) → AlikeTaken x y → item_of x ≡ item_of y
same_item (taken.Token x) (taken.Token y) alike = ap (λ (token : Token). outcome.Token token) alike.0
same_item (taken.Fault x) (taken.Fault y) alike = ap (λ asks. fault_item x asks) alike.1.1 ∙ by_asks y.1.asks
  where
    by_asks : (asks : Option Location) → fault_item x asks ≡ fault_item y asks
    by_asks (Some rest) =
        ap (λ (word : Location). let line : IncludeLine = record { word = word; rest = rest } in outcome.Include line) alike.1.0
    by_asks None =
        ap (λ error. let f : Fault = (error, x.1.location) in outcome.Fault f) alike.0
        ∙ ap (λ location. let f : Fault = (y.0, location) in outcome.Fault f) alike.1.0
same_item taken.End taken.End alike = refl
same_item (taken.Token x) (taken.Fault y) alike = absurd alike
same_item (taken.Token x) taken.End alike = absurd alike
same_item (taken.Fault x) (taken.Token y) alike = absurd alike
same_item (taken.Fault x) taken.End alike = absurd alike
same_item taken.End (taken.Token y) alike = absurd alike
same_item taken.End (taken.Fault y) alike = absurd alike

-- each is alike to itself
alike_taken : (x : Taken) → AlikeTaken x x
alike_taken (taken.Token x) = (refl, refl)
alike_taken (taken.Fault x) = (refl, (refl, refl))
alike_taken taken.End = tt

alike_held : (held : Option Taken) → Both AlikeTaken held held
alike_held None = tt
alike_held (Some x) = alike_taken x

alike_entry : (x : Entry) → AlikeEntry x x
alike_entry (Plain x) = (refl, refl)
alike_entry (End x) = (refl, refl)

alike_list : (xs : List Entry) → Pairs AlikeEntry xs xs
alike_list [] = tt
alike_list (x ∷ xs) = (alike_entry x, alike_list xs)

alike_definition : (x : Option Definition) → Both AlikeDefinition x x
alike_definition None = tt
alike_definition (Some x) = (refl, refl, refl)

-- an end that is held is none in both
held_without_end : (x y : Option Taken) → Both AlikeTaken x y → Both AlikeTaken (without_end x) (without_end y)
held_without_end None None alike = tt
held_without_end (Some taken.End) (Some taken.End) alike = tt
held_without_end (Some (taken.Token x)) (Some (taken.Token y)) alike = alike
held_without_end (Some (taken.Fault x)) (Some (taken.Fault y)) alike = alike
held_without_end None (Some y) alike = absurd alike
held_without_end (Some x) None alike = absurd alike
held_without_end (Some (taken.Token x)) (Some (taken.Fault y)) alike = absurd alike
held_without_end (Some (taken.Token x)) (Some taken.End) alike = absurd alike
held_without_end (Some (taken.Fault x)) (Some (taken.Token y)) alike = absurd alike
held_without_end (Some (taken.Fault x)) (Some taken.End) alike = absurd alike
held_without_end (Some taken.End) (Some (taken.Token y)) alike = absurd alike
held_without_end (Some taken.End) (Some (taken.Fault y)) alike = absurd alike

-- none of the later replies is that either
none_after : {x : Reply} {replies rest : List Reply} → replies ≡ x ∷ rest → Each (λ reply. is_too_deep reply ≡ false) replies
    → Each (λ reply. is_too_deep reply ≡ false) rest
none_after is none = (subst (λ (rs : List Reply). Each (λ reply. is_too_deep reply ≡ false) rs) is none).1

module _ (level : ℕ) (M X : List Seen) (q : ℕ) (fits : Fits M X q) (no_line : has_line_directive X ≡ false) where
  abbrev A : Answers
  A = answers_at level

  abbrev Alike : SourceReader → SourceReader → Type 0
  Alike = Related M X q

  -- what one reader gives next, the other does
  abbrev Reached : SourceReader → Taken → SourceReader → Type 0
  Reached s x t = (y : Taken) × (u : SourceReader) × Reads A s y u × AlikeTaken x y × Alike t u

  abbrev Stepped : SourceReader → SourceReader → Option Taken → SourceReader → Type 0
  Stepped r s o t = Followed A (alike_condition level) (alike_line_number level) Alike s (act s) o t ⊎ ((o ≡ None) × Alike t s)

  stepped : (r s : SourceReader) (o : Option Taken) (t : SourceReader) → Alike r s → Steps A r o t → Stepped r s o t
  stepped r s o t related steps = step_related A (alike_condition level) (alike_line_number level) M X q fits no_line r s o t related steps

  some_given : (x : Taken) (given : Option Taken) → Both AlikeTaken (Some x) given → (y : Taken) × (given ≡ Some y) × AlikeTaken x y
  some_given x (Some y) both = (y, refl, both)
  some_given x None both = absurd both

  none_given : (given : Option Taken) → Both AlikeTaken None given → given ≡ None
  none_given (Some y) both = absurd both
  none_given None both = refl

  at_once : (r s t : SourceReader) (x : Taken) → Stepped r s (Some x) t → Reached s x t
  at_once r s t x (inl f) =
      let g = some_given x f.given f.alike in
      (g.0, f.reader, reads.here g.0 s f.reader (subst (λ (o : Option Taken). Steps A s o f.reader) g.1 f.does), g.2, f.related)
  at_once r s t x (inr none) = let bad = none.0 in cc

  later : (r s t m : SourceReader) (x : Taken) → ((u : SourceReader) → Alike m u → Reached u x t) → Stepped r s None m → Reached s x t
  later r s t m x further (inl f) =
      let there = further f.reader f.related in (
        there.0,
        there.1,
        reads.later there.0 s f.reader there.1 (subst (λ (o : Option Taken). Steps A s o f.reader) (none_given f.given f.alike) f.does) there.2,
        there.3,
        there.4,
      )
  later r s t m x further (inr stays) = further s stays.1

  source_reads : (r t s : SourceReader) (x : Taken) → Alike r s → Reads A r x t → Reached s x t
  source_reads r t s x related (reads.here x1 r1 t1 steps) = at_once r s t x (stepped r s (Some x) t related steps)
  source_reads r t s x related (reads.later x1 r1 m t1 steps more) =
      later r s t m x (λ u alike. source_reads m t u x alike more) (stepped r s None m related steps)

  source_follows : Follows Alike (source_reading A) (source_reading A)
  source_follows = record {
    reads = λ r t s x related steps. source_reads r t s x related steps;
    visible = λ r s related. (same_rules M X q r s related).definitions;
    shown_line = λ r s related line. rw ((same_rules M X q r s related).rules, same_offset M X q r s related) refl;
    numbering = λ r s related. rw ((same_rules M X q r s related).rules, same_offset M X q r s related) refl;
    is_reserved = λ name. refl;
  }

  -- fewer texts are around the second reader
  as_free : (r s : SourceReader) → Alike r s → is_full r ≡ false → is_full s ≡ false
  as_free r s related free =
      let fewer = related_no_deeper M X q r s related in
      lt-leb include_limit (length s.around) (omega (arith, fewer, leb-false include_limit (length r.around) free))

  -- so the replies are the same
  runs_alike : (rules : Rules) (e f : Expander SourceReader) (calls : List Call) (replies : List Reply) → AlikeExpander Alike e f
      → Each (λ reply. is_too_deep reply ≡ false) replies
      → Runs (by_rules A) rules e calls replies → Runs (by_rules A) rules f calls replies
  runs_alike rules e f calls replies alike none (run.done e1 r is) = run.done f replies is
  runs_alike rules e f calls replies alike none (run.added name content tokens e1 more rest r ok runs is) =
      run.added name content tokens f more rest replies ok (runs_alike rules _ _ more rest changed (none_after is none) runs) is
    where
      changed : AlikeExpander Alike (with_added (chars name) tokens e) (with_added (chars name) tokens f)
      changed = record {
        held = alike.held;
        list = alike.list;
        reader = related_changed M X q e.reader f.reader _ _ _ _
            (alike_change e.reader.definitions f.reader.definitions (chars name) (Some (object_like (e.reader.contents + 1) tokens))
            (Some (object_like (f.reader.contents + 1) tokens)) (same_rules M X q e.reader f.reader alike.reader).definitions (refl, refl, refl)) alike.reader;
        hidden = alike.hidden;
      }
  runs_alike rules e f calls replies alike none (run.refused name content fault e1 more rest r error runs is) =
      run.refused name content fault f more rest replies error (runs_alike rules e f more rest alike (none_after is none) runs) is
  runs_alike rules e f calls replies alike none (run.included text e1 more rest r free runs is) =
      run.included text f more rest replies (as_free e.reader f.reader alike.reader free)
      (runs_alike rules _ _ more rest inside (none_after is none) runs) is
    where
      inside : AlikeExpander Alike (with_included (items_by rules text) e) (with_included (items_by rules text) f)
      inside = record {
        held = held_without_end e.held f.held alike.held;
        list = alike.list;
        reader = related_included A (alike_condition level) (alike_line_number level) M X q fits no_line (items_by rules text) e.reader f.reader alike.reader;
        hidden = alike.hidden;
      }
  runs_alike rules e f calls replies alike none (run.too_deep text e1 more rest r full runs is) =
      absurd (true≢false (subst (λ (rs : List Reply). Each (λ reply. is_too_deep reply ≡ false) rs) is none).0)
  runs_alike rules e f calls replies alike none (run.given o e1 g more rest r gives no_fault runs is) =
      let there = alike_emits Alike (source_reading A) (source_reading A) source_follows level e g gives.taken f alike gives.emits in
      let item : Gives A f o there.1 = record { taken = there.0; emits = there.2; is = gives.is ∙ same_item gives.taken there.0 there.3 } in
      run.given o f there.1 more rest replies item no_fault (runs_alike rules g there.1 more rest there.4 (none_after is none) runs) is
  runs_alike rules e f calls replies alike none (run.failed fault e1 g more r gives is) =
      let there = alike_emits Alike (source_reading A) (source_reading A) source_follows level e g gives.taken f alike gives.emits in
      let item : Gives A f (outcome.Fault fault) there.1 =
      record { taken = there.0; emits = there.2; is = gives.is ∙ same_item gives.taken there.0 there.3 } in
      run.failed fault f there.1 more replies item is

-- the law
pub included_is_inserted : (level : ℕ) → IncludedIsInserted (answers_at level)
included_is_inserted level rules text e calls replies closed here numbered none runs =
    runs_alike level e.reader.items items e.reader.position fits closed.no_line rules (with_included items e) (with_inserted items e) calls replies start none runs
  where
    items : List Seen
    items = items_by rules text

    fits : Fits e.reader.items items e.reader.position
    fits = record { within = here.within; front_lines = here.begins_line; whole_lines = items_are_whole rules text; closed = closed.blocks }

    agree : Agree e.reader.position (length items) e.reader.truths [] e.reader.truths
    agree = agree_before e.reader.position (length items) e.reader.truths here.read_before

    start : AlikeExpander (Related e.reader.items items e.reader.position) (with_included items e) (with_inserted items e)
    start = record {
      held = alike_held (without_end e.held);
      list = alike_list e.list;
      reader = in_text (record {
        both = record { rules = refl; definitions = λ name. alike_definition (e.reader.definitions name) };
        outer = suspended_of e.reader;
        around = refl;
        frames = record {
          items = refl;
          outer_items = refl;
          outer_position = refl;
          offset = sym numbered;
          outer_offset = refl;
          outer_unfinished = refl;
          whole = refl;
          within = omega arith;
          position = omega arith;
          agree = agree;
          live = here.live;
        };
        text = refl;
        directive = refl;
      });
      hidden = refl;
    }

-- Once an expander over a source gave the end, it gives nothing else, no matter what is added to the definitions.
use Rattle.std.proofs.Common.{◌≡◌, ◌∙◌, ℕ, Bool, true, false, List, [], ◌∷◌, refl, sym, ap, Option, Some, None}
use Rattle.pp_model.specs.declared.place.Place.{Place}
use Rattle.pp_model.specs.Places.{place_of}
use Rattle.pp_model.specs.declared.read.Read.{Read}
use Rattle.pp_model.specs.Names.{Name, is_identifier, line_name}
use Rattle.pp_model.specs.Definitions.{Definition}
use Rattle.pp_model.specs.SpliceList.{after_marks}
use Rattle.pp_model.specs.Painting.{taken_among}
use Rattle.pp_model.specs.Reading.{Expander, masked_names, Opening, opening}
use Rattle.pp_model.specs.Taking.{line_number, shown_token, shown_outcome, Takes, Fetches, held, listed, read}
use Rattle.pp_model.specs.Calls.{Answers, Called, no_call, Calls, alone, broken, whole}
use Rattle.pp_model.specs.Emitting.{found_among, with_macro, Emits, itself, object, name_alone, call_refused, call}
use Rattle.pp_model.specs.SourceReader.{SourceReader}
use Rattle.pp_model.specs.Reads.{source_reading}
use Rattle.pp_model.specs.declared.read.Taken.{Taken}
use Rattle.pp_model.specs.declared.read.Taken.TheVariants as taken
use Rattle.pp_model.specs.declared.splice.Entry.{Entry}
use Rattle.pp_model.specs.declared.splice.Entry.TheVariants.{Plain}
use Rattle.pp_model.proofs.taking.FoundLemmas.{end_found}
use Rattle.pp_model.proofs.calls.SearchLeadsLemmas.{called_is_a_call, call_leads}
use Rattle.pp_model.proofs.source.SourceEndLemmas.{IsAtEnd, reading_ends, reading_at_end}
use Rattle.pp_model.specs.Numbering.{text_number}
use Rattle.pp_lexer.specs.declared.token.Integer.{Integer}

-- nothing is held, listed or left of the source
pub record IsOver (e : Expander SourceReader) : Type 0 where
  pub none_held : e.held ≡ None
  pub none_listed : e.list ≡ []
  pub at_end : IsAtEnd e.reader

-- an end that is held was found at the end
abbrev pub HoldsLastEnd : Expander SourceReader → Type 0
HoldsLastEnd e = e.held ≡ Some taken.End → (e.list ≡ []) × IsAtEnd e.reader

-- where nothing is held, no end is
pub holds_nothing : (e : Expander SourceReader) → e.held ≡ None → HoldsLastEnd e
holds_nothing e h k = cc

number_goes_on : (place : Place) (shown : Option Integer) → line_number place shown ≡ taken.End → ⊥
number_goes_on place (Some n) h = cc
number_goes_on place None h = cc

taken_goes_on : (shown_line : ℕ → Option Integer) (after : List Entry) (token : Read) → shown_token shown_line after token ≡ taken.End → ⊥
taken_goes_on shown_line after token h = go (is_identifier line_name token.token.value) refl
  where
    go : (b : Bool) → is_identifier line_name token.token.value ≡ b → ⊥
    go true e = number_goes_on (place_of token) _ (rw e at h)
    go false e = let bad = rw e at h in cc

-- only the end is read as the end
read_end : (shown_line : ℕ → Option Integer) (x : Taken) → shown_outcome shown_line x ≡ taken.End → x ≡ taken.End
read_end shown_line (taken.Token token) h = absurd (taken_goes_on shown_line [] token h)
read_end shown_line (taken.Fault fault) h = cc
read_end shown_line taken.End h = refl

-- only the end is painted as the end
painted_end : (names : List Name) (x : Taken) → taken_among names x ≡ taken.End → x ≡ taken.End
painted_end names taken.End h = refl
painted_end names _ h = cc

-- the end opens no macro
end_opens_nothing : (A : Answers) (e : Expander SourceReader) (o : Taken) (m : Opening) → o ≡ taken.End → opening (source_reading A) e o ≡ Some m → ⊥
end_opens_nothing A e o m is h = let bad : None ≡ Some m = rw is at h in cc

module _ (A : Answers) where
  -- after the end that is taken nothing is left
  fetching_ends : (o : Taken) (e f : Expander SourceReader) → Fetches (source_reading A) e o f → HoldsLastEnd e → o ≡ taken.End → IsOver f
  fetching_ends o e f (held o1 e1 f1 h p) last end =
      let there = last (h ∙ ap Some end) in
      record { none_held = ap (λ g. g.held) p; none_listed = ap (λ g. g.list) p ∙ there.0; at_end = rw (ap (λ g. g.reader) p) there.1 }
  fetching_ends o e f (listed o1 token rest e1 f1 h b is p) last end = absurd (taken_goes_on (text_number e.reader.rules e.reader.line_offset) rest token (sym is ∙ end))
  fetching_ends o e f (read x o1 reader e1 f1 h b r is p) last end =
      let there = reading_ends A x e.reader reader r (read_end (text_number reader.rules reader.line_offset) x (sym is ∙ end)) in
      record { none_held = ap (λ g. g.held) p ∙ h; none_listed = ap (λ g. g.list) p; at_end = rw (ap (λ g. g.reader) p) there }

  taking_ends : (o : Taken) (e f : Expander SourceReader) → Takes (source_reading A) e o f → HoldsLastEnd e → o ≡ taken.End → IsOver f
  taking_ends o e f t last end = fetching_ends t.first e f t.fetches last (painted_end (masked_names f) t.first (sym t.paints ∙ end))

  -- a taking leaves nothing held, and so does a call
  fetching_holds_none : (o : Taken) (e f : Expander SourceReader) → Fetches (source_reading A) e o f → f.held ≡ None
  fetching_holds_none o e f (held o1 e1 f1 h p) = ap (λ g. g.held) p
  fetching_holds_none o e f (listed o1 token rest e1 f1 h b is p) = ap (λ g. g.held) p ∙ h
  fetching_holds_none o e f (read x o1 reader e1 f1 h b r is p) = ap (λ g. g.held) p ∙ h

  taking_holds_none : (o : Taken) (e f : Expander SourceReader) → Takes (source_reading A) e o f → f.held ≡ None
  taking_holds_none o e f t = fetching_holds_none t.first e f t.fetches

  call_holds_none : (m : Definition) (c : Called) (e f : Expander SourceReader) → Calls (source_reading A) A m e c f → f.held ≡ None
  call_holds_none = call_leads (source_reading A) (λ e f. f.held ≡ None) (λ e f g first later. later) taking_holds_none A

  -- an end that is found in place of a call is the last
  call_ends : (m : Definition) (c : Called) (o : Taken) (e f : Expander SourceReader) → Calls (source_reading A) A m e c f → HoldsLastEnd e
      → c ≡ no_call o → o ≡ taken.End → IsOver f
  call_ends m c o e f (alone x e1 f1 c1 t h p) last q is =
      let same : x ≡ o = cc in
      taking_ends x e f t last (same ∙ is)
  call_ends m c o e f (broken x paren fault e1 g f1 c1 t h u p) last q is = cc
  call_ends m c o e f (whole x paren gathered answer e1 g f1 c1 t h u a p) last q is = absurd (called_is_a_call gathered.closing.line answer o (sym p ∙ q))

  -- after an item an end that is held is the last, and after the end nothing is left
  pub item_ends : (o : Taken) (e f : Expander SourceReader) → Emits (source_reading A) A e o f → HoldsLastEnd e → HoldsLastEnd f
      × (o ≡ taken.End → IsOver f)
  item_ends o e f (itself x o1 e1 f1 t h p) last =
      (holds_nothing f (taking_holds_none x e f t), λ end. taking_ends x e f t last (end_found f.list x (sym p ∙ end)))
  item_ends o e f (object x o1 m e1 g f1 t h k i) last =
      item_ends o (with_macro m m.token.location.line [] g) f i (holds_nothing (with_macro m m.token.location.line [] g) (taking_holds_none x e g t))
  item_ends o e f (name_alone x y o1 m e1 g g1 f1 t h k c p q) last =
      let found = call_ends m.definition (no_call y) y g g1 c (holds_nothing g (taking_holds_none x e g t)) refl in (
        λ is.
            let same : y ≡ taken.End = (let z = ap (λ z. z.held) q in cc) in
            let over = found same in
            (ap (λ z. z.list) q ∙ over.none_listed, rw (ap (λ z. z.reader) q) over.at_end),
        λ end. absurd (end_opens_nothing A g x m (sym p ∙ end) h),
      )
  item_ends o e f (call_refused x o1 fault m e1 g f1 t h k c p) last =
      (holds_nothing f (call_holds_none m.definition _ g f c), λ end. cc)
  item_ends o e f (call x o1 arguments line m e1 g g1 f1 t h k c i) last =
      item_ends o (with_macro m line arguments g1) f i (holds_nothing (with_macro m line arguments g1) (call_holds_none m.definition _ g g1 c))

  -- where nothing is left, the end is taken, and nothing is left after it
  fetching_when_over : (o : Taken) (e f : Expander SourceReader) → Fetches (source_reading A) e o f → IsOver e → (o ≡ taken.End) × IsOver f
  fetching_when_over o e f (held o1 e1 f1 h p) over = let bad = sym over.none_held ∙ h in cc
  fetching_when_over o e f (listed o1 token rest e1 f1 h b is p) over =
      let bad : Plain token ∷ rest ≡ [] = sym b ∙ ap after_marks over.none_listed in
      cc
  fetching_when_over o e f (read x o1 reader e1 f1 h b r is p) over =
      let there = reading_at_end A x e.reader reader over.at_end r in
      let end : shown_outcome (text_number reader.rules reader.line_offset) x ≡ taken.End = ap (shown_outcome (text_number reader.rules reader.line_offset)) there.0 in
      let same : f.reader ≡ e.reader = ap (λ g. g.reader) p ∙ there.1 in
      (is ∙ end, record { none_held = ap (λ g. g.held) p ∙ h; none_listed = ap (λ g. g.list) p; at_end = rw same over.at_end })

  taking_when_over : (o : Taken) (e f : Expander SourceReader) → Takes (source_reading A) e o f → IsOver e → (o ≡ taken.End) × IsOver f
  taking_when_over o e f t over =
      let there = fetching_when_over t.first e f t.fetches over in
      (t.paints ∙ ap (λ x. taken_among (masked_names f) x) there.0, there.1)

  -- so the end is the next item, for good
  pub item_when_over : (o : Taken) (e f : Expander SourceReader) → Emits (source_reading A) A e o f → IsOver e → (o ≡ taken.End) × IsOver f
  item_when_over o e f (itself x o1 e1 f1 t h p) over =
      let there = taking_when_over x e f t over in
      (p ∙ ap (found_among f.list) there.0, there.1)
  item_when_over o e f (object x o1 m e1 g f1 t h k i) over = absurd (end_opens_nothing A g x m (taking_when_over x e g t over).0 h)
  item_when_over o e f (name_alone x y o1 m e1 g g1 f1 t h k c p q) over = absurd (end_opens_nothing A g x m (taking_when_over x e g t over).0 h)
  item_when_over o e f (call_refused x o1 fault m e1 g f1 t h k c p) over = absurd (end_opens_nothing A g x m (taking_when_over x e g t over).0 h)
  item_when_over o e f (call x o1 arguments line m e1 g g1 f1 t h k c i) over = absurd (end_opens_nothing A g x m (taking_when_over x e g t over).0 h)

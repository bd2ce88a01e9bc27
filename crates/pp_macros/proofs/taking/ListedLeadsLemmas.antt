-- The expander over a list of tokens, an argument or a line, is the definitions' expander of it.
use Rattle.std.proofs.Common.{◌≡◌, ◌∙◌, inl, inr, true, false, ℕ, zero, suc, ◌-◌, All, ◌≤◌, arith, List, [], ◌∷◌, ◌++◌, length, refl, sym, ap, Option, Some, None, Bool}
use Rattle.std.specs.Prelude.{if◌then◌else◌, ◌&&◌}
use Rattle.pp_model.specs.declared.read.Read.{Read}
use Rattle.pp_model.specs.Names.{Name, is_same_name, defined_name}
use Rattle.pp_model.specs.Reading.{Reading, Expander, Listed}
use Rattle.pp_model.specs.inner.Reading.{first_listed, after_listed, ReadsListed}
use Rattle.pp_model.specs.Calls.{Answers, site_of}
use Rattle.pp_model.proofs.calls.LevelLemmas.{none_at_limit}
use Rattle.pp_macros.specs.inner.Calling.{MacroCall}
use Rattle.pp_macros.specs.inner.CallTurns.{TurnsTo, TurnsOrRefuses}
use Rattle.pp_macros.specs.inner.Defined.{Defined, meaning_of}
use Rattle.pp_macros.specs.inner.Finishing.{site_at, IsOpened}
use Rattle.pp_macros.specs.inner.Frames.{new_frame, names_of}
use Rattle.pp_macros.specs.Item.{PlacedStep, wants_memory}
use Rattle.pp_macros.specs.inner.Left.{most_alone}
use Rattle.pp_macros.specs.inner.Expander as kept
use Rattle.pp_macros.specs.inner.Reader.{Reader, hidden_of, of_source, of_list, Listing, listed_step, Reads, shown_line, visible}
use Rattle.pp_macros.specs.declared.calls.Taken.{Taken}
use Rattle.pp_macros.proofs.work.CallFallsLemmas.{IsLess, IsPending, pending_opens}
use Rattle.pp_macros.proofs.taking.SearchSimulates.{ReadsTo, StandsIn, masked_flat}
use Rattle.pp_macros.proofs.taking.TurnLeadsLemmas.{LeadsTo, turn_leads, wants_taken}
use Rattle.pp_model.specs.declared.numbering.Numbering.{Numbering}
use Rattle.pp_model.specs.Numbering.{number_of}

-- how a list is read: an argument, or a line, where `defined` is an operator
abbrev pub listed_reading : Bool → Reading Listed
listed_reading is_line = record {
  Reads = ReadsListed;
  visible = λ reader. reader.visible;
  shown_line = λ reader line. Some (number_of reader.numbering line);
  numbering = λ reader. reader.numbering;
  is_reserved = λ name. is_line && is_same_name name defined_name;
}

module _ (is_line : Bool) (numbering : Numbering) (definitions : List Defined) (hidden : List Name) where
  -- a list that is read, where these names are defined and hidden
  abbrev pub IsListed : Reader → Listed → Type 0
  IsListed (of_source source) x = ⊥
  IsListed (of_list l) x = (x ≡ record { tokens = l.tokens; numbering = l.numbering; visible = meaning_of l.definitions }) × (l.hidden ≡ hidden)
      × (l.is_line ≡ is_line) × (l.definitions ≡ definitions) × (l.numbering ≡ numbering)

  after : (old new : Listing) (x : Listed) (tokens : List Read) → x.tokens ≡ tokens
      → x ≡ record { tokens = old.tokens; numbering = old.numbering; visible = meaning_of old.definitions } → old.hidden ≡ hidden → old.is_line ≡ is_line
      → old.definitions ≡ definitions → old.numbering ≡ numbering → new ≡ record old { tokens = after_listed tokens } → IsListed (of_list new) (record x { tokens = after_listed x.tokens })
  after old new x tokens e is names plain same counts at =
      rw at (
        ap (λ (ts : List Read). record x { tokens = after_listed ts }) e
            ∙ ap (λ (z : Listed). record z { tokens = after_listed tokens }) is,
        names,
        plain,
        same,
        counts,
      )

  listed_simulates : (tokens : List Read) (old new : Listing) (x : Listed) (step : PlacedStep Read) → old.tokens ≡ tokens → IsListed (of_list old) x
      → step ≡ listed_step tokens → new ≡ record old { tokens = after_listed tokens } → ReadsTo (listed_reading is_line) IsListed hidden step x (of_list new)
  listed_simulates [] old new x step e (is, names, plain, same, counts) gives at =
      let y : Listed = record x { tokens = after_listed x.tokens } in
      let tokens : x.tokens ≡ [] = ap (λ (z : Listed). z.tokens) is ∙ e in
      rw gives (y, (sym (ap first_listed tokens), refl), after old new x [] tokens is names plain same counts at)
  listed_simulates (read ∷ rest) old new x step e (is, names, plain, same, counts) gives at =
      let y : Listed = record x { tokens = after_listed x.tokens } in
      let tokens : x.tokens ≡ read ∷ rest = ap (λ (z : Listed). z.tokens) is ∙ e in
      rw gives (y, (sym (ap first_listed tokens), refl), after old new x (read ∷ rest) tokens is names plain same counts at)

  pub list_simulates : (r s : Reader) (x : Listed) (step : PlacedStep Read) → IsListed r x → Reads r step s → wants_memory step ≡ false
      → ReadsTo (listed_reading is_line) IsListed hidden step x s
  list_simulates (of_list old) (of_list new) x step listed (inl h) reported = listed_simulates old.tokens old new x step refl listed h.0 h.1
  list_simulates (of_list old) (of_list new) x step listed (inr h) reported = absurd (let bad : true ≡ false = rw h at reported in cc)
  list_simulates (of_list old) (of_source new) x step listed h reported = absurd h
  list_simulates (of_source old) s x step listed h reported = absurd listed

  pub list_shows : (s : Reader) (y : Listed) (line : ℕ) → IsListed s y → (listed_reading is_line).shown_line y line ≡ shown_line s line
  list_shows (of_source source) y line h = absurd h
  list_shows (of_list l) y line h = ap (λ (x : Listed). Some (number_of x.numbering line)) h.0

  pub list_hides : (s : Reader) (y : Listed) → IsListed s y → hidden_of s ≡ hidden
  list_hides (of_source source) y h = absurd h
  list_hides (of_list l) y (is, names, plain, same, counts) = names

  pub list_sees : (s : Reader) (y : Listed) (name : Name) → IsListed s y
      → visible s name ≡ (if (listed_reading is_line).is_reserved name then None else (listed_reading is_line).visible y name)
  list_sees (of_source source) y name h = absurd h
  list_sees (of_list l) y name (is, names, plain, same, counts) = rw (plain, is) refl

  abbrev pub StandsListed : kept.Expander → Listing → Expander Listed → Type 0
  StandsListed m l e = StandsIn (listed_reading is_line) IsListed hidden m (of_list l) e

  pub listed_leads : (A : Answers) (m n : kept.Expander) (l k : Listing) (step : PlacedStep Taken) (e : Expander Listed) → StandsListed m l e
      → TurnsTo m (of_list l) step n (of_list k) → wants_taken step ≡ false
      → LeadsTo (listed_reading is_line) IsListed hidden list_simulates list_shows list_hides list_sees A step e n (of_list k)
  listed_leads A m n l k step e stands turns reported = turn_leads (listed_reading is_line) IsListed hidden list_simulates list_shows list_hides list_sees A m n
      (of_list l) (of_list k) step e stands turns reported

  -- where a call stands
  pub site_same : (n : kept.Expander) (k : Listing) (c : MacroCall) (f : Expander Listed) → StandsListed n k f
      → site_of (listed_reading is_line) f c.paren c.tokens ≡ site_at c numbering definitions (names_of n.frames ++ hidden)
  site_same n k c f stands =
      let listed = stands.reader in
      let seen : f.reader.visible ≡ meaning_of definitions = ap (λ (x : Listed). x.visible) listed.0 ∙ ap meaning_of listed.3 in
      let around = masked_flat (listed_reading is_line) IsListed hidden n (of_list k) f stands in
      let counts : f.reader.numbering ≡ numbering = ap (λ (x : Listed). x.numbering) listed.0 ∙ listed.4 in
      rw (seen, counts, around) refl

  -- after a call whose frame opened less is left
  pub opened_less : (levels : ℕ) (m n : kept.Expander) (l k : Listing) → (c : MacroCall) (p : kept.Expander) → IsPending levels m (of_list l) c n (of_list k)
      → k.definitions ≡ definitions → IsOpened levels numbering definitions (names_of n.frames ++ hidden) c n p → IsLess levels m (of_list l) p (of_list k)
  opened_less zero m n l k c p pend same opened =
      absurd (none_at_limit c.opened.definition (site_at c numbering definitions (names_of n.frames ++ hidden)) opened.arguments opened.answers)
  opened_less (suc lower) m n l k c p pend same opened =
      let one : suc lower - 1 ≡ lower = omega arith in
      let least : All (λ (a : List Read). length a ≤ most_alone lower k.definitions (length c.tokens)) opened.arguments = rw (same, ← one) opened.least in
      let at : p ≡ record { held = None; frames = new_frame c.opened c.call opened.arguments ∷ n.frames } = opened.opens
      ∙ ap (λ (h : Option (PlacedStep Read)). record { held = h; frames = new_frame c.opened c.call opened.arguments ∷ n.frames }) pend.free in
      rw at (pending_opens lower m (of_list l) c n (of_list k) opened.arguments pend least)

-- a turn that was not refused memory
pub turned : (m n : kept.Expander) (r s : Reader) (step : PlacedStep Taken) → TurnsOrRefuses m r step n s → wants_taken step ≡ false → TurnsTo m r step n s
turned m n r s step (inl h) reported = h
turned m n r s step (inr h) reported = absurd (let bad : true ≡ false = rw h.fault at reported in cc)

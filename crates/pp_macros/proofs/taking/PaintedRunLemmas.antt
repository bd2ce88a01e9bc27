-- Tokens that a reader reads in a row are painted afterwards, and are then as they are taken.
use Rattle.std.proofs.Common.{◌≡◌, ◌∙◌, ◌<◌, ◌≤◌, ℕ, zero, suc, Bool, true, false, ◌||◌, List, [], ◌∷◌, ◌++◌, length, arith, refl, sym, ap, subst, Ok, get_or, set, length-append}
use Rattle.pp_model.specs.Names.{Name, is_identifier, line_name}
use Rattle.pp_lexer.specs.declared.token.TokenValue.{TokenValue}
use Rattle.pp_lexer.specs.declared.token.TokenValue.TheVariants.{Ident}
use Rattle.pp_model.specs.Painting.{is_one_of, painted_among}
use Rattle.pp_model.specs.declared.read.Read.{Read}
use Rattle.pp_macros.specs.inner.Expander.{Expander, StepsTaking, now, IsTakenOnto, TakesFlat, none_taken, taken_more, TakesUpTo, TakesIfFound}
use Rattle.pp_macros.specs.inner.Frames.{Frame, names_of}
use Rattle.pp_macros.specs.inner.Idle.{is_idle}
use Rattle.pp_macros.specs.inner.Nesting.{MayWait, seen_by}
use Rattle.pp_macros.specs.inner.Reader.{Reader, Reads, ReadsRun, ReadsOnto, IsReadOnto, ReadsFlat, none_read, read_more}
use Rattle.pp_macros.specs.inner.Reading.{painted_from}
use Rattle.pp_macros.proofs.taking.ExpanderLemmas.{idle_steps}
use Rattle.pp_macros.proofs.taking.NestingLemmas.{reads_seen, reads_wait, hidden_seen}

-- nothing is painted past the end
pub painted_past : (names : List Name) (k : ℕ) (reads : List Read) → length reads ≤ k → painted_from names k reads ≡ reads
painted_past names k [] past = refl
painted_past names zero (read ∷ reads) past = absurd (omega (arith, past))
painted_past names (suc k) (read ∷ reads) past = ap (λ (rest : List Read). read ∷ rest) (painted_past names k reads (omega (arith, past)))

-- nothing is painted if no name is open
none_of : (value : TokenValue) → is_one_of [] value ≡ false
none_of (Ident name) = refl
none_of _ = refl

pub among_none : (read : Read) → painted_among [] read ≡ read
among_none read =
    ap (λ (b : Bool). record read { painted = b }) (ap (λ (b : Bool). read.painted || b) (none_of read.token.value) ∙ no_more read.painted)
  where
    no_more : (b : Bool) → (b || false) ≡ b
    no_more true = refl
    no_more false = refl

-- one is painted after the other
pub painted_more : (names : List Name) (at : ℕ) (reads : List Read) (old new : Read) → at < length reads → old ≡ get_or reads at old
    → new ≡ painted_among names old → painted_from names (suc at) (set reads at new) ≡ painted_from names at reads
painted_more names at [] old new within is made = absurd (omega (arith, within))
painted_more names zero (read ∷ reads) old new within is made = ap (λ (first : Read). first ∷ painted_from names zero reads) (made ∙ ap (painted_among names) is)
painted_more names (suc at) (read ∷ reads) old new within is made =
    ap (λ (rest : List Read). read ∷ rest) (painted_more names at reads old new (omega (arith, within)) is made)

painted_put : (names : List Name) (k : ℕ) (reads : List Read) (read : Read) → k ≤ length reads
    → painted_from names k (reads ++ read ∷ []) ≡ painted_from names k reads ++ painted_among names read ∷ []
painted_put names zero [] read within = refl
painted_put names (suc k) [] read within = absurd (omega (arith, within))
painted_put names zero (first ∷ rest) read within =
    ap (λ (more : List Read). painted_among names first ∷ more) (painted_put names zero rest read (omega arith))
painted_put names (suc k) (first ∷ rest) read within =
    ap (λ (more : List Read). first ∷ more) (painted_put names k rest read (omega (arith, within)))

module _ (m : Expander) (below : List Frame) (waits : is_idle m ≡ true) where
  -- a token of the reader that isn't `__LINE__` is taken with its paint, if nothing is open here or held
  pub painted_steps : (r s : Reader) (read : Read) → MayWait below s → Reads r (Ok read) s → is_identifier line_name read.token.value ≡ false
      → StepsTaking m (seen_by below r) (Ok (painted_among (names_of below) read)) m (seen_by below s)
  painted_steps r s read around reads apart =
      subst (λ (names : List Name). StepsTaking m (seen_by below r) (Ok (painted_among names read)) m (seen_by below s)) (hidden_seen below s around)
      (idle_steps m (seen_by below r) (seen_by below s) (Ok read) waits (reads_seen below r s (Ok read) reads) (rw apart refl))

  painted_onto : (r s : Reader) (k : ℕ) (some more : List Read) → MayWait below s → k ≤ length some → IsReadOnto r some s more
      → IsTakenOnto m (seen_by below r) (painted_from (names_of below) k some) m (seen_by below s) (painted_from (names_of below) k more)
  painted_onto r s k some more around within onto = record {
    read = painted_among (names_of below) onto.read;
    takes = now (Ok (painted_among (names_of below) onto.read)) m m (seen_by below r) (seen_by below s)
        (painted_steps r s onto.read around onto.reads onto.apart) refl;
    holds = onto.holds;
    is = ap (painted_from (names_of below) k) onto.is ∙ painted_put (names_of below) k some onto.read within;
  }

  record Painted (r : Reader) (tokens : List Read) (s : Reader) (more : List Read) : Type 0 where
    flat : TakesFlat m (seen_by below r) tokens (seen_by below s) (painted_from (names_of below) (length tokens) more)
    within : length tokens ≤ length more
    around : MayWait below s

  painted_flat : (r : Reader) (tokens : List Read) (s : Reader) (more : List Read) → MayWait below r → ReadsFlat r tokens s more → Painted r tokens s more
  unfolding painted_onto
  painted_flat r tokens s more around (none_read s1 more1 same is) = record {
    flat = none_taken (seen_by below s) (painted_from (names_of below) (length tokens) more) (ap (seen_by below) same)
        (ap (painted_from (names_of below) (length tokens)) is ∙ painted_past (names_of below) (length tokens) tokens (omega arith));
    within = omega (arith, ap (λ (reads : List Read). length reads) is);
    around = subst (MayWait below) (sym same) around;
  }
  painted_flat r tokens s more around (read_more between s1 some more1 flat onto apart) =
      let before : Painted r tokens between some = painted_flat r tokens between some around flat in
      let after : MayWait below s = reads_wait below between s (Ok onto.read) onto.reads before.around in
      record {
        flat = taken_more (seen_by below between) (seen_by below s) (painted_from (names_of below) (length tokens) some)
            (painted_from (names_of below) (length tokens) more) before.flat (painted_onto between s (length tokens) some more after before.within onto) apart;
        within = omega (arith, before.within, ap (λ (reads : List Read). length reads) onto.is, length-append some (onto.read ∷ []));
        around = after;
      }

  -- what a reader puts there at once, painted, is what is taken
  pub painted_run : (r s : Reader) (tokens more : List Read) (found : Bool) → MayWait below r → ReadsRun r tokens found s more
      → TakesUpTo m (seen_by below r) tokens found (seen_by below s) (painted_from (names_of below) (length tokens) more) × MayWait below s
  painted_run r s tokens more found around run =
      let before : Painted r tokens run.between run.some = painted_flat r tokens run.between run.some around run.flat in
      let last = go found before run.last in
      (record { between = seen_by below run.between; some = painted_from (names_of below) (length tokens) run.some; flat = before.flat; last = last.0 }, last.1)
    where
      go : {between : Reader} {some : List Read} (found : Bool) → Painted r tokens between some → ReadsOnto between some found s more
          → TakesIfFound m (seen_by below between) (painted_from (names_of below) (length tokens) some) found (seen_by below s)
          (painted_from (names_of below) (length tokens) more) × MayWait below s
      go {between} {some} true before onto =
          let after = reads_wait below between s (Ok onto.read) onto.reads before.around in
          (painted_onto between s (length tokens) some more after before.within onto, after)
      go {between} {some} false before same =
          ((ap (seen_by below) same.0, ap (painted_from (names_of below) (length tokens)) same.1), subst (MayWait below) (sym same.0) before.around)

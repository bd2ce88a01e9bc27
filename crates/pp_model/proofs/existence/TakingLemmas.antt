-- Something is taken from an expander, and what is left is shorter.
use Rattle.std.proofs.Common.{◌≡◌, ℕ, ◌≤◌, ◌<◌, true, List, [], ◌∷◌, length, refl, ap, arith, None}
use Rattle.pp_model.specs.SpliceList.{after_marks}
use Rattle.pp_model.specs.Painting.{taken_among}
use Rattle.pp_model.specs.Reading.{Reading, Expander, masked_names}
use Rattle.pp_model.specs.Taking.{Takes, Fetches, listed, read, shown_token, shown_outcome}
use Rattle.pp_model.specs.Calls.{Answers}
use Rattle.pp_model.specs.declared.read.Read.{Read}
use Rattle.pp_model.specs.declared.read.Taken.{Taken}
use Rattle.pp_model.specs.declared.splice.EndMark.{EndMark}
use Rattle.pp_model.specs.declared.splice.Entry.{Entry}
use Rattle.pp_model.specs.declared.splice.Entry.TheVariants.{Plain, End}
use Rattle.pp_model.proofs.existence.Turns.{is_token, Here, token_painted, token_shown}
use Rattle.pp_model.proofs.existence.CoveredLists.{over, Covered, covered_after_marks, Front, moved, here, size}

no_mark_first : (entries rest : List Entry) (mark : EndMark) → after_marks entries ≡ End mark ∷ rest → ⊥
no_mark_first (End first ∷ entries) rest mark h = no_mark_first entries rest mark h
no_mark_first _ rest mark h = cc

marks_shorten : (entries : List Entry) → length (after_marks entries) ≤ length entries
marks_shorten [] = omega arith
marks_shorten (End mark ∷ entries) = omega (arith, marks_shorten entries)
marks_shorten (Plain token ∷ entries) = omega arith

-- what was fetched is taken, with its paint
pub taking : {R : Type 0} (I : Reading R) (e f : Expander R) (first : Taken) → Fetches I e first f → Takes I e (taken_among (masked_names f) first) f
taking I e f first fetches = record { first = first; fetches = fetches; paints = refl }

module _ {R : Type 0} {I : Reading R} {A : Answers} {Fine : R → Type 0} {left : R → ℕ} (c : Here I A Fine left) where
  -- how far taking and searching lead: less is left in all, and no more of the reader
  pub record Comes (e f : Expander R) : Type 0 where
    pub front : Front c f
    pub less : size c f < size c e
    pub kept : left f.reader ≤ left e.reader

  -- what is taken
  pub record Took (e : Expander R) : Type 0 where
    pub given : Taken
    pub after : Expander R
    pub takes : Takes I e given after
    pub fine : Fine after.reader
    pub comes : is_token given ≡ true → Comes e after

  pub took_read : (e : Expander R) → e.held ≡ None → after_marks e.list ≡ [] → Fine e.reader → left e.reader ≤ left c.reader → Took e
  took_read e none empty f le =
      let g = c.premises.gives e.reader f in
      let after : Expander R = record e { list = []; reader = g.after } in
      let first = shown_outcome (I.shown_line g.after) g.given in
      let fewer : is_token (taken_among (masked_names after) first) ≡ true → left g.after < left e.reader =
      λ t. g.falls (token_shown (I.shown_line g.after) g.given (token_painted (masked_names after) first t)) in
      record {
        given = taken_among (masked_names after) first;
        after = after;
        takes = taking I e after first (read g.given first g.after e after none empty g.reads refl refl);
        fine = g.fine;
        comes = λ t. record {
          front = moved after none g.fine (omega (arith, fewer t, le));
          less = omega (arith, fewer t);
          kept = omega (arith, fewer t);
        };
      }

  took_listed : (e : Expander R) (token : Read) (rest : List Entry) → e.held ≡ None → after_marks e.list ≡ Plain token ∷ rest → Fine e.reader
      → Front c (record e { list = rest }) → Took e
  took_listed e token rest none p f front =
      let whole : length (after_marks e.list) ≡ length (Plain token ∷ rest) = ap length p in
      let shorter : length (Plain token ∷ rest) ≤ length e.list = omega (arith, whole, marks_shorten e.list) in
      let after : Expander R = record e { list = rest } in
      let first = shown_token (I.shown_line e.reader) rest token in
      record {
        given = taken_among (masked_names after) first;
        after = after;
        takes = taking I e after first (listed first token rest e after none p refl refl);
        fine = f;
        comes = λ t. record { front = front; less = omega (arith, shorter); kept = omega arith };
      }

  took_here : (S : List Entry) → Covered c S → Took (over c S)
  took_here S a = go (after_marks S) refl (covered_after_marks c S a)
    where
      go : (L : List Entry) → after_marks S ≡ L → Covered c L → Took (over c S)
      go [] p b = took_read (over c S) refl p c.ready (omega arith)
      go (Plain token ∷ rest) p b = took_listed (over c S) token rest refl p c.ready (here rest (over c rest) refl b.1 b.2)
      go (End mark ∷ rest) p b = absurd (no_mark_first S rest mark p)

  took_moved : (e : Expander R) → e.held ≡ None → Fine e.reader → left e.reader < left c.reader → Took e
  took_moved e none f less = go (after_marks e.list) refl
    where
      go : (L : List Entry) → after_marks e.list ≡ L → Took e
      go [] p = took_read e none p f (omega (arith, less))
      go (Plain token ∷ rest) p = took_listed e token rest none p f (moved (record e { list = rest }) none f less)
      go (End mark ∷ rest) p = absurd (no_mark_first e.list rest mark p)

  pub took : (e : Expander R) → Front c e → Took e
  took e (moved e1 none f less) = took_moved e none f less
  took e (here S e1 p o a) = rw p (took_here S a)

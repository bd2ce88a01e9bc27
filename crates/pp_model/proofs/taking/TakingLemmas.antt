-- Taking has one outcome if its reader has one.
use Rattle.std.proofs.Common.{◌≡◌, ◌∙◌, [], ◌∷◌, ap, sym}
use Rattle.pp_model.specs.Painting.{taken_among}
use Rattle.pp_model.specs.Reading.{Reading, Expander, masked_names, argument_reading, line_reading}
use Rattle.pp_model.specs.Taking.{Fetches, held, listed, read}
use Rattle.pp_model.specs.ExpansionLaws.{OneReads, OneTaking}
use Rattle.pp_model.specs.declared.read.Taken.{Taken}
use Rattle.pp_model.specs.declared.splice.Entry.TheVariants.{Plain}

-- two pairs of equations with one right side
pub one_pair : {X Y : Type 0} {x y z : X} {s t u : Y} → (x ≡ z) × (s ≡ u) → (y ≡ z) × (t ≡ u) → (x ≡ y) × (s ≡ t)
one_pair a b = (a.0 ∙ sym b.0, a.1 ∙ sym b.1)

pub argument_reads_one : OneReads argument_reading
argument_reads_one r x y s t a b = one_pair a b

pub line_reads_one : OneReads line_reading
line_reads_one r x y s t a b = one_pair a b

one_fetching : {R : Type 0} (I : Reading R) → OneReads I → (x y : Taken) (e f g : Expander R) → Fetches I e x f → Fetches I e y g → (x ≡ y) × (f ≡ g)
one_fetching I one x y e f g (held x1 e1 f1 h p) (held y1 e2 g1 k q) = (cc, p ∙ sym q)
one_fetching I one x y e f g (held x1 e1 f1 h p) (listed y1 t r e2 g1 k b o q) = cc
one_fetching I one x y e f g (held x1 e1 f1 h p) (read z y1 s e2 g1 k b m o q) = cc
one_fetching I one x y e f g (listed x1 t r e1 f1 h b o p) (held y1 e2 g1 k q) = cc
one_fetching I one x y e f g (listed x1 t r e1 f1 h b o p) (listed y1 u s e2 g1 k c n q) =
    let same : Plain t ∷ r ≡ Plain u ∷ s = sym b ∙ c in
    let token : t ≡ u = cc in
    let rest : r ≡ s = cc in
    (o ∙ (rw (token, rest) (sym n)), p ∙ (rw rest (sym q)))
one_fetching I one x y e f g (listed x1 t r e1 f1 h b o p) (read z y1 s e2 g1 k c m n q) =
    let bad : Plain t ∷ r ≡ [] = sym b ∙ c in
    cc
one_fetching I one x y e f g (read w x1 r e1 f1 h b l o p) (held y1 e2 g1 k q) = cc
one_fetching I one x y e f g (read w x1 r e1 f1 h b l o p) (listed y1 u s e2 g1 k c n q) =
    let bad : Plain u ∷ s ≡ [] = sym c ∙ b in
    cc
one_fetching I one x y e f g (read w x1 r e1 f1 h b l o p) (read z y1 s e2 g1 k c m n q) =
    let same = one e.reader w z r s l m in
    (o ∙ (rw (same.0, same.1) (sym n)), p ∙ (rw same.1 (sym q)))

pub one_taking : {R : Type 0} (I : Reading R) → OneReads I → OneTaking I
one_taking I one x y e f g a b =
    let same = one_fetching I one a.first b.first e f g a.fetches b.fetches in
    (a.paints ∙ ap (λ o. taken_among (masked_names f) o) same.0 ∙ ap (λ h. taken_among (masked_names h) b.first) same.1 ∙ sym b.paints, same.1)

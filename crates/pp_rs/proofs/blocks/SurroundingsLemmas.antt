-- The blocks around an open block are those that were open at its first line.
use Rattle.std.proofs.Common.{◌≡◌, ◌∙◌, ℕ, zero, suc, ◌+◌, ◌≤◌, ◌<◌, Bool, true, false, ◌&&◌, not, if◌then◌else◌, List, [], ◌∷◌, ◌++◌, refl, ap, sym, subst, append-nil, arith}
use Rattle.std.proofs.lemmas.Bool.{and_parts}
use Rattle.pp_model.specs.Blocks.{opens, Block, open_blocks}
use Rattle.pp_model.specs.declared.block.BlockLine.{BlockLine}
use Rattle.pp_model.specs.declared.block.Part.{Part}
use Rattle.pp_model.specs.declared.block.Part.TheVariants as part
use Rattle.pp_rs.proofs.blocks.InnerBlocksLemmas.{closes_block, inner_after, stays_open, parts_block, parting, open_blocks_step, is_not_zero, inner_after_lines, enough_inner, fewer_inner, stays_open_append, parting_append}

-- a block in which more inner ones are open stays open too
stays_deeper : (inner deeper : ℕ) (lines : List BlockLine) → inner ≤ deeper → stays_open inner lines ≡ true → stays_open deeper lines ≡ true
stays_deeper inner deeper lines h stays = whether (stays_open deeper lines) refl
  where
    whether : (b : Bool) → stays_open deeper lines ≡ b → b ≡ true
    whether true e = refl
    whether false e = absurd (omega (arith, h, enough_inner inner lines stays, fewer_inner deeper lines e))

record Deeper (p : Part) (inner deeper : ℕ) (stays : Bool) : Type 0 where
  parts : parts_block p deeper ≡ false
  below : inner_after p inner < inner_after p deeper
  later : stays ≡ true

goes_deeper : (p : Part) (inner deeper : ℕ) (stays : Bool) → not (closes_block p inner) && stays ≡ true → inner < deeper → Deeper p inner deeper stays
goes_deeper p inner zero stays e h = absurd (omega (arith, h))
goes_deeper part.Opens inner (suc deeper) stays e h = record { parts = refl; below = omega (arith, h); later = e }
goes_deeper part.Closes zero (suc deeper) stays e h = cc
goes_deeper part.Closes (suc inner) (suc deeper) stays e h =
    let stays_later = rw (is_not_zero inner) at e in
    record { parts = refl; below = omega (arith, h); later = stays_later }
goes_deeper part.Elif inner (suc deeper) stays e h = record { parts = is_not_zero deeper; below = h; later = e }
goes_deeper part.Else inner (suc deeper) stays e h = record { parts = is_not_zero deeper; below = h; later = e }

-- lines after which a block stays open part none around it
part_no_outer : (inner deeper : ℕ) (lines : List BlockLine) → inner < deeper → stays_open inner lines ≡ true → parting deeper lines ≡ []
part_no_outer inner deeper [] h e = refl
part_no_outer inner deeper (line ∷ later) h e =
    let d = goes_deeper line.part inner deeper (stays_open (inner_after line.part inner) later) e h in
    ap (λ (parts : Bool). if parts then line ∷ parting (inner_after line.part deeper) later else parting (inner_after line.part deeper) later) d.parts
    ∙ part_no_outer (inner_after line.part inner) (inner_after line.part deeper) later d.below d.later

opens_stays : (p : Part) (line : BlockLine) (inner : ℕ) (later : List BlockLine) → opens p ≡ true → stays_open 0 later ≡ true
    → not (closes_block p inner) && stays_open (inner_after p inner) later ≡ true
opens_stays part.Opens line inner later is e = stays_deeper 0 (inner + 1) later (omega arith) e
opens_stays _ line inner later is e = cc

opens_parts : (p : Part) (line : BlockLine) (inner : ℕ) (later : List BlockLine) → opens p ≡ true → stays_open 0 later ≡ true
    → (if parts_block p inner then line ∷ parting (inner_after p inner) later else parting (inner_after p inner) later) ≡ []
opens_parts part.Opens line inner later is e = part_no_outer 0 (inner + 1) later (omega arith) e
opens_parts _ line inner later is e = cc

-- Among these lines stands the first line of a block that is open after them, and before it these blocks are open.
pub record IsOpen (lines : List BlockLine) (before : List Block) (block : Block) : Type 0 where
  pub earlier : List BlockLine
  pub later : List BlockLine
  pub split : lines ≡ earlier ++ block.first ∷ later
  pub begins : opens block.first.part ≡ true
  pub stays : stays_open 0 later ≡ true
  pub around : open_blocks earlier ≡ before

module _ (line : BlockLine) (later : List BlockLine) (block : Block) where
  -- one line more before it
  one_earlier : (before outer : List Block) (o : IsOpen later before block) → open_blocks (line ∷ o.earlier) ≡ outer → IsOpen (line ∷ later) outer block
  one_earlier before outer o around = record {
    earlier = line ∷ o.earlier;
    later = o.later;
    split = ap (λ lines. line ∷ lines) o.split;
    begins = o.begins;
    stays = o.stays;
    around = around;
  }

  -- a line that opens a block around it
  around_it : (before : List Block) → opens line.part ≡ true → stays_open 0 later ≡ true → IsOpen later before block
      → IsOpen (line ∷ later) (record { first = line; partings = parting 0 later } ∷ before) block
  around_it before begins stays o =
      let depth = inner_after_lines 0 o.earlier in
      let whole : stays_open 0 o.earlier && stays_open depth (block.first ∷ o.later) ≡ true =
      sym (stays_open_append 0 o.earlier (block.first ∷ o.later)) ∙ ap (stays_open 0) (sym o.split) ∙ stays in
      let front : stays_open 0 o.earlier ≡ true = (and_parts (stays_open 0 o.earlier) (stays_open depth (block.first ∷ o.later)) whole).0 in
      let same : parting 0 o.earlier ≡ parting 0 later =
      sym (append-nil (parting 0 o.earlier)) ∙ ap (λ more. parting 0 o.earlier ++ more)
      (sym (opens_parts block.first.part block.first depth o.later o.begins o.stays))
      ∙ sym (parting_append 0 o.earlier (block.first ∷ o.later)) ∙ ap (parting 0) (sym o.split) in
      one_earlier before (record { first = line; partings = parting 0 later } ∷ before) o
      (open_blocks_step line o.earlier ∙ rw (begins, front, same, o.around) refl)

  -- a line that opens none of the blocks around it
  beside_it : (before : List Block) → opens line.part && stays_open 0 later ≡ false → IsOpen later before block → IsOpen (line ∷ later) before block
  beside_it before none o =
      one_earlier before before o (open_blocks_step line o.earlier ∙ rw (still (opens line.part) (stays_open 0 o.earlier) refl refl) o.around)
    where
      still : (begins front : Bool) → opens line.part ≡ begins → stays_open 0 o.earlier ≡ front → opens line.part && stays_open 0 o.earlier ≡ false
      still false front b f = rw b refl
      still true false b f = rw (b, f) refl
      still true true b f =
          let whole : stays_open 0 later ≡ true =
          ap (stays_open 0) o.split ∙ stays_open_append 0 o.earlier (block.first ∷ o.later)
          ∙ ap (λ front. front && stays_open (inner_after_lines 0 o.earlier) (block.first ∷ o.later)) f
          ∙ opens_stays block.first.part block.first (inner_after_lines 0 o.earlier) o.later o.begins o.stays in
          let wrong : true ≡ false = sym (ap (λ begins. begins && stays_open 0 later) b ∙ whole) ∙ none in
          cc

  at_line : (begins stays : Bool) (before inner : List Block) → opens line.part ≡ begins → stays_open 0 later ≡ stays
      → ((around : List Block) → open_blocks later ≡ around ++ block ∷ inner → IsOpen later around block)
      → (if begins && stays then record { first = line; partings = parting 0 later } ∷ open_blocks later else open_blocks later) ≡ before ++ block ∷ inner
      → IsOpen (line ∷ later) before block
  at_line true true [] inner b s deeper e = record { earlier = []; later = later; split = cc; begins = cc; stays = s; around = refl }
  at_line true true (first ∷ before) inner b s deeper e =
      let same : record { first = line; partings = parting 0 later } ≡ first = cc in
      let rest : open_blocks later ≡ before ++ block ∷ inner = cc in
      subst (λ (outer : Block). IsOpen (line ∷ later) (outer ∷ before) block) same (around_it before b s (deeper before rest))
  at_line true false before inner b s deeper e = beside_it before (rw (b, s) refl) (deeper before e)
  at_line false stays before inner b s deeper e = beside_it before (rw b refl) (deeper before e)

-- no item stands in an empty list
pub none_within : {X : Type 0} (before after : List X) (x : X) → [] ≡ before ++ x ∷ after → ⊥
none_within [] after x e = cc
none_within (first ∷ before) after x e = cc

-- where each block that is open was opened
pub open_at : (lines : List BlockLine) (before : List Block) (block : Block) (inner : List Block) → open_blocks lines ≡ before ++ block ∷ inner
    → IsOpen lines before block
open_at [] before block inner e = absurd (none_within before inner block e)
open_at (line ∷ later) before block inner e =
    at_line line later block (opens line.part) (stays_open 0 later) before inner refl refl (λ around. open_at later around block inner)
    (sym (open_blocks_step line later) ∙ e)

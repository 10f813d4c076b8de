-- `list::LentCounts::counted` meets its contract. The loop's invariant: of the places before `place`, n are counted, and they stand at the front of the two
-- arrays. Assumes nothing.
use Prim.Native.Nat.{◌*◌}
use mathlib.Core.Path.{refl, ap, ◌∙◌}
use borrow.Author.Rules.{rules}
use native.Mathlib.Omega.{arith}
use lib.Seq.{sets}
use Rattle.isa.specs.declared.U32TableEntry.{U32TableEntry}
use Rattle.isa.specs.Entries.{entry_words, entry_width}
use Rattle.list.specs.Lists.{multiplicity_at}
use Rattle.list.proofs.CountedStores.{stored_none, stored_few, stored_long_keys, stored_long_counts, stored_passed, stored_more}
use Rattle.list.proofs.CountedStores.{stored_sizes, stored_keys, stored_counts}
use Rattle.list.proofs.LentCounts.counted.Goals as goal

pub loop-place-init : goal.loop-place-init
loop-place-init c = stored_none _ _ _

pub loop-place-preserved-then-multiplicity-eq0 : goal.loop-place-preserved-then-multiplicity-eq0
unfolding multiplicity_at
loop-place-preserved-then-multiplicity-eq0 c = stored_passed c.loop-place.invariant c.if-multiplicity-eq0.true

pub put_key-requires : goal.put_key-requires
put_key-requires c =
    let stored = c.loop-place.invariant in
    omega (arith, stored_few stored, stored_long_keys stored)

pub offset_bounds-to_multiplicities-n : goal.offset_bounds-to_multiplicities-n
offset_bounds-to_multiplicities-n c =
    let few = stored_few c.loop-place.invariant in
    let long = stored_long_counts c.loop-place.invariant in
    search rules

pub bounds-to_multiplicities-n : goal.bounds-to_multiplicities-n
bounds-to_multiplicities-n c =
    let few = stored_few c.loop-place.invariant in
    let long = stored_long_counts c.loop-place.invariant in
    search rules

pub overflow_add-n : goal.overflow_add-n
overflow_add-n c = let few = stored_few c.loop-place.invariant in search rules

pub loop-place-preserved : goal.loop-place-preserved
unfolding multiplicity_at
loop-place-preserved c =
    stored_more c.loop-place.invariant c.if-multiplicity-eq0.false
    (c.put_key.ensures ∙ ap (λ (k : U32TableEntry). sets c.loop-place.to_keys (entry_width * c.loop-place.n) (entry_words k)) (c.key_at.ensures _ _)) refl

pub shape_of-to_keys : goal.shape_of-to_keys
shape_of-to_keys c = stored_long_keys c.loop-place.invariant

pub shape_of-to_multiplicities : goal.shape_of-to_multiplicities
shape_of-to_multiplicities c = stored_long_counts c.loop-place.invariant

pub returns : goal.returns
returns c =
    let stored = c.loop-place.invariant in
    record {
      value = stored_sizes stored (search rules);
      to_keys_after = stored_keys stored (search rules);
      to_multiplicities_after = stored_counts stored (search rules);
    }

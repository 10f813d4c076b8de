-- `list_bytes::StoredList::unpack` meets its contract. The loop's invariant: what is to be stored in all is what is left to be stored, from place i on, in the
-- arrays as they are. Assumes nothing.
use Prim.Native.Nat.{ℕ, ◌+◌, ◌*◌}
use mathlib.Core.Path.{refl, sym, ap, ◌∙◌}
use mathlib.Core.List.{List, map}
use native.Mathlib.Nat.{sub-zero, zero-add}
use lib.Seq.{sets}
use Rattle.words.proofs.Places.{flat_turn, flat_done, map_turn, places_done}
use Rattle.isa.specs.Entries.{entry_words, entry_width}
use Rattle.list_bytes.specs.Packed.{stored_entry, stored_multiplicity}
use Rattle.list_bytes.proofs.StoredList.unpack.Goals as goal

pub loop-i-init : goal.loop-i-init
loop-i-init c = (rw sub-zero, rw sub-zero)

pub loop-i-preserved : goal.loop-i-preserved
loop-i-preserved c =
    let s = c.args.self.now.bytes.now in (
      c.loop-i.invariant.0
          ∙ flat_turn (λ i. entry_words (stored_entry s i)) entry_width 0 _ _ _ _ c.loop-i-test.true refl
          (c.put_key.ensures ∙ rw (zero-add, c.entry.ensures)),
      c.loop-i.invariant.1 ∙ map_turn (stored_multiplicity s) _ _ _ _ c.loop-i-test.true c.multiplicity.ensures,
    )

pub returns : goal.returns
returns c =
    let s = c.args.self.now.bytes.now in
    let i = c.loop-i.i in record {
      keys_after = sym (c.loop-i.invariant.0 ∙ ap (sets c.loop-i.keys (0 + entry_width * i)) (flat_done (λ i. entry_words (stored_entry s i)) _ _ c.loop-i-test.false));
      multiplicities_after = sym (c.loop-i.invariant.1
          ∙ ap (λ (is : List ℕ). sets c.loop-i.multiplicities i (map (stored_multiplicity s) is)) (places_done _ _ c.loop-i-test.false));
    }

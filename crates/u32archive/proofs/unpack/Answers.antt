-- `u32archive::unpack` meets its contract: what was read is a part of the buffer, and the table is a part of the words.
use Rattle.std.proofs.Common.{ℕ, ◌≤◌, ◌≡◌, List, length, take, sym, length-take-le, arith}
use Rattle.table_text.specs.TableText.{max_words}
use Rattle.u32archive.proofs.unpack.Goals as goal

-- the part that is lent has the words of the most rows
part_length : (words : List ℕ) → max_words ≤ length words → 163840 ≤ length (take 163840 words)
part_length words h = let e : length (take 163840 words) ≡ 163840 = length-take-le 163840 words (omega arith) in omega arith

pub slice_bounds-unpack_bytes-end-3 : goal.slice_bounds-unpack_bytes-end-3
slice_bounds-unpack_bytes-end-3 g c = sym (length-take-le 163840 c.args.room.now.words.now (omega (arith, c.args.room.now.enough.0)))

pub unpack_bytes-requires : goal.unpack_bytes-requires
unpack_bytes-requires g c = (part_length c.args.room.now.words.now c.args.room.now.enough.0, c.args.room.now.enough.1)

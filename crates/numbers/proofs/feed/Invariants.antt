-- `numbers::feed` meets its contract. The invariant: what is left of the part, read from the place reached and into the words as they are, makes what
-- is asked.
use Rattle.std.proofs.Common.{◌≡◌, ◌≤◌, length, drop, Ok}
use Rattle.numbers.specs.Sheets.{feed_all}
use Rattle.numbers.proofs.feed.Given as goal

abbrev pub invariant-loop-byte : goal.invariant-loop-byte
invariant-loop-byte g l =
    (g.S.Sheet.room ≤ length l.words)
    × g.S.Sheet.Fits l.reached.sheet
    × (feed_all g.S.Sheet.takes l.fn.stage l.part l.initial.words ≡ feed_all g.S.Sheet.takes (Ok l.reached) (drop l.byte-index l.part) l.words)

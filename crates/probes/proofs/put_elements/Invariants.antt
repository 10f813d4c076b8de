-- What the loop of `put_elements` keeps: the elements passed are stored, one after the other, and no place is lost.
use Rattle.std.proofs.Common.{◌≡◌, ◌*◌, length, map, take}
use lib.Seq.{sets}
use Rattle.xfield.specs.XFieldElements.{ext_of}
use Rattle.probes.specs.Probes.{words_of}
use Rattle.probes.proofs.put_elements.Given as goal

abbrev pub invariant-loop-i : goal.invariant-loop-i
invariant-loop-i l =
    (length l.words ≡ length l.initial.words)
    × (l.words ≡ sets l.initial.words (3 * l.from) (words_of (take l.i (map ext_of l.elements))))

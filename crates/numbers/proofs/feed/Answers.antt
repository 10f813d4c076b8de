-- `numbers::feed` meets its contract. The invariant: what is left of the part, read from the place reached and into the words as they are, makes
-- what is asked.
use borrow.Author.Rules.{rules}
use mathlib.Core.Path.{sym, ap, ◌∙◌}
use Rattle.std.specs.Prelude.{Err}
use Rattle.std.proofs.lemmas.Result.{err_from_is_err_and}
use Rattle.numbers.proofs.Sheets.{feed_after_fault, feed_more, feed_ends, feed_stops}
use Rattle.numbers.proofs.feed.Goals as goal

pub returns-in_err-reached : goal.returns-in_err-reached
returns-in_err-reached g c =
    let p = err_from_is_err_and c.from_residual.result c.from_residual.ensures.1 in
    feed_after_fault _ _ _ _ c.in_err-reached.was (p.1 ∙ ap Err p.2)

pub returns-in_err-reached-2 : goal.returns-in_err-reached-2
returns-in_err-reached-2 g c =
    let r = c.from_residual-in_err-reached-2 in
    let p = err_from_is_err_and r.result r.ensures.1 in
    rw (p.1, p.2) (feed_stops _ _ _ _ c.loop-byte.byte-index {after = c.read_byte.new.words} (search rules) c.in_err-reached-2.ensures c.loop-byte.invariant.2)

pub loop-byte-preserved : goal.loop-byte-preserved
loop-byte-preserved g c =
    let f = c.in_ok-reached-2.ensures in
    (search rules, f.within, c.loop-byte.invariant.2 ∙ feed_more _ _ _ _ c.loop-byte.byte-index (search rules) f)

pub returns : goal.returns
returns g c =
    let e = c.loop-byte.invariant.2 ∙ feed_ends _ _ _ _ c.loop-byte.byte-index (search rules) in
    record {
      stage = sym (ap (λ f. f.stage) e);
      words = sym (ap (λ f. f.words) e);
      within = c.loop-byte.invariant.1;
    }

-- `c_answers::answered` meets its contract: the words of the call are stored over the first words, and a refusal writes none. Assumes nothing.
use Rattle.std.proofs.Common.{rules, ◌≡◌, length, drop, ◌++◌, arith, sym, refl, Ok, Err}
use lib.Seq.{sets}
use Rattle.words.proofs.Sets.{sets_front}
use Rattle.c_answers.proofs.Exporting.{work_done, refused}
use Rattle.c_answers.proofs.answered.Goals as goal

pub returns-in-Ok-clause-called : goal.returns-in-Ok-clause-called
returns-in-Ok-clause-called g c enough =
    let answers = c.args.answers.now in
    let words = c.into-words.result in
    let all : length words ≡ g.row.N = search rules in
    let stored : words ++ drop g.row.N answers ≡ sets answers 0 words = rw (← all) (sym (sets_front words answers (omega arith))) in
    let copied : c.copy_from_slice.new.self ≡ words = search rules in
    (Ok c.in-Ok.given, Ok words, (search rules, (c.into-words.ensures, rw (copied, stored) (work_done enough refl (omega arith)))))

pub returns-in-Err-clause-called : goal.returns-in-Err-clause-called
returns-in-Err-clause-called g c enough =
    (Err c.in-Err.reason, Err c.in-Err.reason, (search rules, (refl, refused c.in-Err.reason enough (search rules) refl)))

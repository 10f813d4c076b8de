-- `table_input::answer` meets its contract: the bytes that are written are those that were put, and no others.
use Rattle.std.proofs.lemmas.Result.{on_ok_weaker}
use Rattle.numbers.proofs.Sheets.{put_whole}
use Rattle.table_input.proofs.answer.Goals as goal

pub returns : goal.returns
returns g c =
    let whole = put_whole c.put_answer-length.ensures in
    on_ok_weaker c.write_all.result (λ written. (c.in_ok-stage.stage, c.read_text.new.words, c.in_ok-stage.ensures, rw whole at written)) c.write_all.ensures

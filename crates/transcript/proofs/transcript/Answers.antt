-- `transcript::transcript` meets its contract: the size of the output is judged first, then the text is put from its front on.
use borrow.Author.Rules.{rules}
use Rattle.text.proofs.Adding.{whole_text}
use Rattle.transcript.proofs.Steps.{short_out, text_put}
use Rattle.transcript.proofs.transcript.Goals as goal

pub returns-then-out-lt-MAX_TEXT : goal.returns-then-out-lt-MAX_TEXT
returns-then-out-lt-MAX_TEXT c =
    let all = short_out _ _ c.if-out-lt-MAX_TEXT.true in
    record { due = all.0; fits = all.1 }

pub put_transcript-requires : goal.put_transcript-requires
put_transcript-requires c = search rules

pub returns : goal.returns
returns c =
    let put = whole_text c.put_transcript.ensures (search rules) (search rules) (search rules) (search rules) in
    let all = text_put _ _ c.if-out-lt-MAX_TEXT.false put in
    record { due = all.0; fits = all.1 }

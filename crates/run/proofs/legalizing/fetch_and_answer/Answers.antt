use Rattle.std.proofs.Common.{◌<◌, length, take, arith}
use Rattle.std.specs.Io.KnownBytes.{IsAtEnd}
use Rattle.run.proofs.Enough.{failed_known, lines_known, memory_known, said_known, status_known}
use Rattle.run.proofs.legalizing.fetch_and_answer.Goals as goal

pub returns-clause-lines : goal.returns-clause-lines
returns-clause-lines g c =
    let ended : length (take c.in_ok-length.length c.fetch.new.room) < 65536 → IsAtEnd (g.R.Source.remaining c.fetch.new.input) = λ short. c.in_ok-length.ensures.bytes.front.1 (omega (arith, short, c.in_ok-length.ensures.bound.1)) in
    lines_known _ _ _ c.in_ok-length.ensures.bytes.front.0 ended c.answer.result _ _ c.answer.ensures.lines

pub returns-clause-said : goal.returns-clause-said
returns-clause-said g c =
    let ended : length (take c.in_ok-length.length c.fetch.new.room) < 65536 → IsAtEnd (g.R.Source.remaining c.fetch.new.input) = λ short. c.in_ok-length.ensures.bytes.front.1 (omega (arith, short, c.in_ok-length.ensures.bound.1)) in
    said_known _ _ _ c.in_ok-length.ensures.bytes.front.0 ended c.answer.result _ _ c.answer.ensures.said

pub returns-clause-status : goal.returns-clause-status
returns-clause-status g c =
    let ended : length (take c.in_ok-length.length c.fetch.new.room) < 65536 → IsAtEnd (g.R.Source.remaining c.fetch.new.input) = λ short. c.in_ok-length.ensures.bytes.front.1 (omega (arith, short, c.in_ok-length.ensures.bound.1)) in
    status_known _ _ _ c.in_ok-length.ensures.bytes.front.0 ended c.answer.result c.answer.ensures.status

pub returns-clause-failed : goal.returns-clause-failed
returns-clause-failed g c =
    let ended : length (take c.in_ok-length.length c.fetch.new.room) < 65536 → IsAtEnd (g.R.Source.remaining c.fetch.new.input) = λ short. c.in_ok-length.ensures.bytes.front.1 (omega (arith, short, c.in_ok-length.ensures.bound.1)) in
    failed_known _ _ _ c.in_ok-length.ensures.bytes.front.0 ended c.answer.result _ _ _ _ c.answer.ensures.failed

pub returns-clause-memory : goal.returns-clause-memory
returns-clause-memory g c =
    let ended : length (take c.in_ok-length.length c.fetch.new.room) < 65536 → IsAtEnd (g.R.Source.remaining c.fetch.new.input) = λ short. c.in_ok-length.ensures.bytes.front.1 (omega (arith, short, c.in_ok-length.ensures.bound.1)) in
    memory_known _ _ _ c.in_ok-length.ensures.bytes.front.0 ended c.answer.result c.args.said.now c.answer.ensures.memory

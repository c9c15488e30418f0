-- `aegis128l_stream` meets its contract: a refusal changes nothing; else the buffer is cleared and the keystream laid over it.
use Rattle.std.proofs.Common.{sym}
use Rattle.answers.proofs.Answers.{stream_ok}
use Rattle.aegis128l.specs.Cipher.{aegis128l}
use Rattle.oneshot.proofs.OtherLeaves.{stream_refuses, streams}
use Rattle.oneshot.proofs.stream.aegis128l_stream.Goals as goal

pub returns-in-Err : goal.returns-in-Err
returns-in-Err c = stream_refuses aegis128l _ _ _ _ c.in-Err.ensures

pub returns : goal.returns
returns c = streams aegis128l _ _ (stream_ok (sym c.in_default.ensures)) _ c.wipe.ensures c.aegis128l_stream_xor.ensures

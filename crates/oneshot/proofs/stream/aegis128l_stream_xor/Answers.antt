-- `aegis128l_stream_xor` meets its contract: a refusal changes nothing; else the keystream is laid over the buffer.
use Rattle.std.proofs.Common.{sym}
use Rattle.answers.proofs.Answers.{stream_ok}
use Rattle.aegis128l.specs.Cipher.{aegis128l}
use Rattle.oneshot.proofs.OtherLeaves.{stream_xor_refuses, xors-stream}
use Rattle.oneshot.proofs.stream.aegis128l_stream_xor.Goals as goal

pub returns-in-Err : goal.returns-in-Err
returns-in-Err c = stream_xor_refuses aegis128l _ _ _ _ c.in-Err.ensures

pub returns : goal.returns
returns c = xors-stream aegis128l _ _ (stream_ok (sym c.in_default.ensures)) _ c.new.ensures c.stream_xor.ensures

-- The piece of a `Sealer` meets its contract: it is compared with the ciphertext's bytes at its own place.
use Rattle.std.proofs.Common.{rules}
use Rattle.cuttings.proofs.sealing.SealerCut.piece.Goals as goal

pub returns-clause-taken : goal.returns-clause-taken
returns-clause-taken c = search rules

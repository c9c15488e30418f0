-- Each exported function meets the contract that stands in specs/CallContracts.antt, by its own theorem.
-- Assumes nothing.
use seplogic.Ra.Ura.{Ura}
use prog.Model.{Model}
use types.Logic.{Logic}
use contract.Running.{Running, within}
use Rattle.thin.proofs as thin
use Rattle.guarantees.specs.Archive.{linked}
use Rattle.guarantees.specs.CallContracts.{Contracts}
use Rattle.guarantees.proofs.Wired as found

pub contracts : {M : Type 1} {𝓤 : Ura M} (𝓛 : Logic 𝓤) (𝓜 : Model 𝓤 𝓛.H) (𝓡 : Running 𝓤 𝓛.H 𝓜) → Contracts 𝓛 𝓜 𝓡
contracts {𝓤 = 𝓤} 𝓛 𝓜 𝓡 =
    let archive = within 𝓤 𝓛.H 𝓜 𝓡 linked in
    record {
      aegis128l_seal = thin.once.aegis128l_seal.Met.met 𝓤 𝓛 𝓜 archive found.aegis128l_seal;
      aegis128l_seal_in_place = thin.once.aegis128l_seal_in_place.Met.met 𝓤 𝓛 𝓜 archive found.aegis128l_seal_in_place;
      aegis128l_open = thin.once.aegis128l_open.Met.met 𝓤 𝓛 𝓜 archive found.aegis128l_open;
      aegis128l_open_in_place = thin.once.aegis128l_open_in_place.Met.met 𝓤 𝓛 𝓜 archive found.aegis128l_open_in_place;
      aegis128l_stream = thin.once.aegis128l_stream.Met.met 𝓤 𝓛 𝓜 archive found.aegis128l_stream;
      aegis128l_stream_xor = thin.once.aegis128l_stream_xor.Met.met 𝓤 𝓛 𝓜 archive found.aegis128l_stream_xor;
      aegis128l_mac = thin.once.aegis128l_mac.Met.met 𝓤 𝓛 𝓜 archive found.aegis128l_mac;
      aegis128l_mac_check = thin.once.aegis128l_mac_check.Met.met 𝓤 𝓛 𝓜 archive found.aegis128l_mac_check;
      aegis128l_seal_start = thin.aegis128l_seal_start.Met.met 𝓤 𝓛 𝓜 archive found.aegis128l_seal_start;
      aegis128l_open_start = thin.aegis128l_open_start.Met.met 𝓤 𝓛 𝓜 archive found.aegis128l_open_start;
      aegis128l_mac_start = thin.aegis128l_mac_start.Met.met 𝓤 𝓛 𝓜 archive found.aegis128l_mac_start;
      aegis128l_seal_piece = thin.aegis128l_seal_piece.Met.met 𝓤 𝓛 𝓜 archive found.aegis128l_seal_piece;
      aegis128l_seal_piece_in_place = thin.aegis128l_seal_piece_in_place.Met.met 𝓤 𝓛 𝓜 archive found.aegis128l_seal_piece_in_place;
      aegis128l_open_piece = thin.aegis128l_open_piece.Met.met 𝓤 𝓛 𝓜 archive found.aegis128l_open_piece;
      aegis128l_mac_piece = thin.aegis128l_mac_piece.Met.met 𝓤 𝓛 𝓜 archive found.aegis128l_mac_piece;
      aegis128l_seal_finish = thin.aegis128l_seal_finish.Met.met 𝓤 𝓛 𝓜 archive found.aegis128l_seal_finish;
      aegis128l_open_finish = thin.aegis128l_open_finish.Met.met 𝓤 𝓛 𝓜 archive found.aegis128l_open_finish;
      aegis128l_mac_finish = thin.aegis128l_mac_finish.Met.met 𝓤 𝓛 𝓜 archive found.aegis128l_mac_finish;
      aegis128l_mac_finish_check = thin.aegis128l_mac_finish_check.Met.met 𝓤 𝓛 𝓜 archive found.aegis128l_mac_finish_check;
      aegis128l_abort = thin.aegis128l_abort.Met.met 𝓤 𝓛 𝓜 archive found.aegis128l_abort;
    }

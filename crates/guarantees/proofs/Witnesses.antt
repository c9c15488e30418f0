-- None of the demands is idle at AEGIS-128L: each field that takes something as given is applied to an instance of it, under a key and a nonce that are
-- neither all 00 nor all ff, with a message of 33 bytes, of which the first piece has 31.
-- Assumes nothing.
use Prim.Native.Nat.{◌<◌}
use mathlib.Core.List.{List}
use lib.Dec.{lit<, lit≤}
use lib.ListN.{length}
use Rattle.promises.proofs.WitnessKey.{Mixed, some_key, some_nonce, some_data, first_part, some_message}
use Rattle.promises.proofs.Witnesses.{Said, some_allowed, chosen, said_1, said_2, said_3}
use Rattle.aegis128l.specs.Cipher.{aegis128l, mac_of_aegis128l}
use Rattle.guarantees.proofs.Demands.{aegis128l_demand_1, aegis128l_demand_2, aegis128l_demand_3}

pub aegis128l_chosen : Mixed (some_key 16) × Mixed (some_nonce 16) × (length (first_part 32) < 32) × (32 < length (some_message 32))
aegis128l_chosen = chosen aegis128l mac_of_aegis128l (lit< tt) (lit< tt)

pub aegis128l_said_1 : List Said
aegis128l_said_1 = said_1 aegis128l mac_of_aegis128l (lit< tt) (lit< tt) aegis128l_demand_1

pub aegis128l_said_2 : List Said
aegis128l_said_2 = said_2 aegis128l mac_of_aegis128l (lit< tt) (lit< tt) aegis128l_demand_2

pub aegis128l_said_3 : List Said
aegis128l_said_3 =
    let fixed = some_allowed aegis128l mac_of_aegis128l (lit< tt) (lit< tt) some_data (lit≤ tt) in
    said_3 aegis128l mac_of_aegis128l (lit< tt) (lit< tt) (aegis128l_demand_3 (some_key 16) (some_nonce 16) some_data 16 fixed)

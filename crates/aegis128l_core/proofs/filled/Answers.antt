-- `filled` meets its contract: the part is xored before it is laid into the block if it is decrypted, and after it if it is encrypted.
use Rattle.std.proofs.Common.{arith, length, rules, ◌+◌, ◌-◌, ◌≡◌}
use Rattle.aegis128l_core.proofs.Laid.{filled_decrypted, filled_encrypted}
use Rattle.aegis128l_core.proofs.filled.Goals as goal

pub returns-in-Encrypt : goal.returns-in-Encrypt
returns-in-Encrypt c =
    let A = c.args in
    let xs = A.part.now in
    let l : length A.k ≡ 32 = search rules in
    filled_encrypted A.k xs A.f ((A.f + length xs) - A.f) (omega arith) (omega arith) _ _ _ c.xor_into.ensures
    c.in-Encrypt.is c.put.ensures

pub returns-in-Decrypt : goal.returns-in-Decrypt
returns-in-Decrypt c =
    let A = c.args in
    let xs = A.part.now in
    let l : length A.k ≡ 32 = search rules in
    filled_decrypted A.k xs A.f ((A.f + length xs) - A.f) (omega arith) (omega arith) _ _ _ c.xor_into-in-Decrypt.ensures
    c.in-Decrypt.is c.put-in-Decrypt.ensures

-- The draft's test vectors of AEGIS-128L and of its MAC (docs/DRAFT.md): what the definitions give, and what it must be. All are under one key
-- and one nonce. `proofs/Vectors.antt` shows that they are the same.
-- Assumes nothing.
use Rattle.std.specs.Prelude.{ℕ, zero, suc, ◌/◌, ◌%◌, ◌^◌, List, [], ◌∷◌}
use Rattle.promises.specs.Texts.{ciphertext, seal_tag, mac_tag}
use Rattle.aegis128l.specs.Cipher.{aegis128l, mac_of_aegis128l}

-- a number as n bytes, the highest first: bytes as the draft prints them
abbrev pub hex : ℕ → ℕ → List ℕ
hex zero x = []
hex (suc n) x = x / 256 ^ n % 256 ∷ hex n x

abbrev pub key : List ℕ
key = hex 16 0x10010000000000000000000000000000

abbrev pub nonce : List ℕ
nonce = hex 16 0x10000200000000000000000000000000

-- ---- sealing: the ciphertext, and the tags of both sizes

pub record Sealed : Type 0 where
  pub ct : List ℕ
  pub tag16 : List ℕ
  pub tag32 : List ℕ

pub record Vector : Type 0 where
  pub ad : List ℕ
  pub msg : List ℕ
  pub must : Sealed

abbrev pub sealed : List ℕ → List ℕ → Sealed
sealed ad msg = record {
  ct = ciphertext aegis128l key nonce ad msg;
  tag16 = seal_tag aegis128l key nonce ad msg 16;
  tag32 = seal_tag aegis128l key nonce ad msg 32;
}

-- half a block
abbrev vector1 : Vector
vector1 = record {
  ad = [];
  msg = hex 16 0x00000000000000000000000000000000;
  must = record {
    ct = hex 16 0xc1c0e58bd913006feba00f4b3cc3594e;
    tag16 = hex 16 0xabe0ece80c24868a226a35d16bdae37a;
    tag32 = hex 32 0x25835bfbb21632176cf03840687cb968cace4617af1bd0f7d064c639a5c79ee4;
  };
}

-- nothing
abbrev vector2 : Vector
vector2 = record {
  ad = [];
  msg = [];
  must = record {
    ct = [];
    tag16 = hex 16 0xc2b879a67def9d74e6c14f708bbcc9b4;
    tag32 = hex 32 0x1360dc9db8ae42455f6e5b6a9d488ea4f2184c4e12120249335c4ee84bafe25d;
  };
}

-- one block
abbrev vector3 : Vector
vector3 = record {
  ad = hex 8 0x0001020304050607;
  msg = hex 32 0x000102030405060708090a0b0c0d0e0f101112131415161718191a1b1c1d1e1f;
  must = record {
    ct = hex 32 0x79d94593d8c2119d7e8fd9b8fc77845c5c077a05b2528b6ac54b563aed8efe84;
    tag16 = hex 16 0xcc6f3372f6aa1bb82388d695c3962d9a;
    tag32 = hex 32 0x022cb796fe7e0ae1197525ff67e309484cfbab6528ddef89f17d74ef8ecd82b3;
  };
}

-- a part of a block
abbrev vector4 : Vector
vector4 = record {
  ad = hex 8 0x0001020304050607;
  msg = hex 14 0x000102030405060708090a0b0c0d;
  must = record {
    ct = hex 14 0x79d94593d8c2119d7e8fd9b8fc77;
    tag16 = hex 16 0x5c04b3dba849b2701effbe32c7f0fab7;
    tag32 = hex 32 0x86f1b80bfb463aba711d15405d094baf4a55a15dbfec81a76f35ed0b9c8b04ac;
  };
}

-- two blocks, the last ones in part
abbrev vector5 : Vector
vector5 = record {
  ad = hex 42 0x000102030405060708090a0b0c0d0e0f101112131415161718191a1b1c1d1e1f20212223242526272829;
  msg = hex 40 0x101112131415161718191a1b1c1d1e1f202122232425262728292a2b2c2d2e2f3031323334353637;
  must = record {
    ct = hex 40 0xb31052ad1cca4e291abcf2df3502e6bdb1bfd6db36798be3607b1f94d34478aa7ede7f7a990fec10;
    tag16 = hex 16 0x7542a745733014f9474417b337399507;
    tag32 = hex 32 0xb91e2947a33da8bee89b6794e647baf0fc835ff574aca3fc27c33be0db2aff98;
  };
}

abbrev pub vectors : List Vector
vectors = vector1 ∷ vector2 ∷ vector3 ∷ vector4 ∷ vector5 ∷ []

-- ---- the MAC of 35 bytes: the tags of both sizes

pub record Maced : Type 0 where
  pub tag16 : List ℕ
  pub tag32 : List ℕ

abbrev pub input : List ℕ
input = hex 35 0x000102030405060708090a0b0c0d0e0f101112131415161718191a1b1c1d1e1f202122

abbrev pub maced : Maced
maced = record { tag16 = mac_tag aegis128l mac_of_aegis128l key nonce input 16; tag32 = mac_tag aegis128l mac_of_aegis128l key nonce input 32 }

abbrev pub mac_must : Maced
mac_must = record {
  tag16 = hex 16 0xd3f09b2842ad301687d6902c921d7818;
  tag32 = hex 32 0x9490e7c89d420c9f37417fa625eb38e8cad53c5cbec55285e8499ea48377f2a3;
}

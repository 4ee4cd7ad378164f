-- The standard's worked examples: one block and two blocks, for both digests.
use Rattle.std.specs.Prelude.{◌≡◌, codes}
use Rattle.sha2_block.specs.Bytes.{big_endian}
use Rattle.digest.specs.Hash.{sha256, sha512}

pub record Examples : Type 0 where
  pub one_block_256 : sha256 (codes "abc") ≡ big_endian 32 0xba7816bf_8f01cfea_414140de_5dae2223_b00361a3_96177a9c_b410ff61_f20015ad
  pub one_block_512 : sha512 (codes "abc") ≡ big_endian 64 0xddaf35a1_93617aba_cc417349_ae204131_12e6fa4e_89a97ea2_0a9eeee6_4b55d39a_2192992a_274fc1a8_36ba3c23_a3feebbd_454d4423_643ce80e_2a9ac94f_a54ca49f
  pub two_blocks_256 : sha256 (codes "abcdbcdecdefdefgefghfghighijhijkijkljklmklmnlmnomnopnopq") ≡ big_endian 32 0x248d6a61_d20638b8_e5c02693_0c3e6039_a33ce459_64ff2167_f6ecedd4_19db06c1
  pub two_blocks_512 : sha512 (codes "abcdefghbcdefghicdefghijdefghijkefghijklfghijklmghijklmnhijklmnoijklmnopjklmnopqklmnopqrlmnopqrsmnopqrstnopqrstu") ≡ big_endian 64 0x8e959b75_dae313da_8cf4f728_14fc143f_8f7779c6_eb9f7fa1_7299aead_b6889018_501d289e_4900f7e4_331b99de_c4b5433a_c7d329ee_b6dd2654_5e96e55b_874be909

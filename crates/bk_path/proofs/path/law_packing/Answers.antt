use Rattle.bk_path.proofs.PathLemmas.{unpack-pack, pack-unpack, pack-injective}
use Rattle.bk_path.proofs.path.law_packing.Goals as goal

pub returns : goal.returns
returns c = record { back = unpack-pack; only = pack-unpack; injective = pack-injective }

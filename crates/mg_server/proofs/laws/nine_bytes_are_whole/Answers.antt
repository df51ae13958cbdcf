use Rattle.std.proofs.Common.{refl}
use Rattle.mg_bson.specs.Bytes.{le32}
use Rattle.mg_link.specs.Chunks.{chunks_behind}
use Rattle.mg_server.specs.Files.{file_of}
use Rattle.mg_server.specs.NineBytes.{file_record}
use Rattle.mg_server.proofs.laws.nine_bytes_are_whole.Goals as goal

pub returns : goal.returns
unfolding file_of chunks_behind le32
returns c = record {
  record_of = file_record;
  alone = refl;
  length_is = refl;
  size_is = refl;
  chunks_are = (record { number_is = refl; data_is = refl }, (record { number_is = refl; data_is = refl }, (record { number_is = refl; data_is = refl }, tt)));
}

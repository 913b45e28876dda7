-- `image::image::check_readable` meets its contract.
use Rattle.image.proofs.Refused.{block_told, byte_told}
use Rattle.image.proofs.image.check_readable.Goals as goal

pub returns-in-Some : goal.returns-in-Some
returns-in-Some c = block_told _ c.requires c.wrong_among.ensures c.in-Some.is c.at.ensures

pub returns-in-Some-wrong_byte : goal.returns-in-Some-wrong_byte
returns-in-Some-wrong_byte c = byte_told _ c.requires c.wrong_among.ensures c.in_default.is c.u32_at-schema.ensures c.if-schema-ne4.false c.wrong_byte.ensures c.in-Some-wrong_byte.is c.at-in-Some-wrong_byte.ensures

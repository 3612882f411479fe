use Rattle.std.proofs.Common.{◌∷◌, [], refl}
use Rattle.octets_tool.specs.Names.{hex_word}
use Rattle.octets_tool.proofs.NamedRows.{found, none_found}
use Rattle.octets_tool.proofs.script.names.with_bytes.Goals as goal

pub returns-in-put_bytes : goal.returns-in-put_bytes
returns-in-put_bytes c = found (hex_word c.args.bytes.items ∷ []) c.in-put_bytes.is refl

pub returns-in-put_huffman : goal.returns-in-put_huffman
returns-in-put_huffman c = found (hex_word c.args.bytes.items ∷ []) c.in-put_huffman.is refl

pub returns-in-put_huffman_lower : goal.returns-in-put_huffman_lower
returns-in-put_huffman_lower c = found (hex_word c.args.bytes.items ∷ []) c.in-put_huffman_lower.is refl

pub returns-in-as_mut : goal.returns-in-as_mut
returns-in-as_mut c = found (hex_word c.args.bytes.items ∷ []) c.in-as_mut.is refl

pub returns-in_default : goal.returns-in_default
returns-in_default c = none_found c.args.name.now (hex_word c.args.bytes.items ∷ []) search

use Rattle.check_uses.proofs.headers.equal_bytes_of_fragment.Goals as goal

pub returns : goal.returns
returns c = c.one_encoding.ensures.fragment _ _ _ c.to_bytes.ensures.encoding (rw c.requires c.to_bytes-2.ensures.encoding)

use Rattle.fw_query.proofs.line_text.write_texts.Goals as goal

pub returns : goal.returns
returns c =
    rw (
      c.as_bytes.ensures.value,
      c.as_bytes-2.ensures.value,
      c.as_bytes-3.ensures.value,
      c.as_bytes-4.ensures.value,
      c.as_bytes-5.ensures.value,
      c.as_bytes-6.ensures.value,
      c.as_bytes-7.ensures.value,
      c.as_bytes-8.ensures.value,
      c.as_bytes-9.ensures.value,
      c.as_bytes-10.ensures.value,
    ) at c.write_record.ensures

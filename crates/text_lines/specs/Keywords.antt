-- The words of the grammar, as they are written.
use Rattle.std.specs.Prelude.{ℕ, List, codes}
use Rattle.text_lines.specs.declared.keywords.Keyword.{Keyword}

abbrev pub keyword_text : Keyword → List ℕ
keyword_text Keyword.Script = codes "script"
keyword_text Keyword.Lanes = codes "lanes"
keyword_text Keyword.Region = codes "region"
keyword_text Keyword.Length = codes "length"
keyword_text Keyword.Block = codes "block"
keyword_text Keyword.Sizes = codes "sizes"
keyword_text Keyword.Decode = codes "decode"
keyword_text Keyword.Handle = codes "handle"
keyword_text Keyword.Sanitize = codes "sanitize"
keyword_text Keyword.Shareable = codes "shareable"
keyword_text Keyword.Host = codes "host"
keyword_text Keyword.Bases = codes "bases"
keyword_text Keyword.MessageTag = codes "mtag"
keyword_text Keyword.Log = codes "log"
keyword_text Keyword.All = codes "all"
keyword_text Keyword.Handles = codes "handles"
keyword_text Keyword.First = codes "first"
keyword_text Keyword.Count = codes "count"
keyword_text Keyword.More = codes "more"
keyword_text Keyword.Tag = codes "tag"
keyword_text Keyword.Policy = codes "policy"
keyword_text Keyword.Forced = codes "forced"
keyword_text Keyword.Flags = codes "flags"

-- Digests of small texts.
use Rattle.std.proofs.Common.{◌≡◌, ℕ, true, List, [], ◌∷◌, codes, refl, inl, arith}
use Rattle.std.specs.List.{AllByRecursion}
use Rattle.mysql_queries.specs.Scanning.{is_plain}
use Rattle.mysql_queries.specs.Tokens.{Byte, slash, star, single_quote}
use Rattle.mysql_bytes.specs.declared.mode.Mode.{Mode}
use Rattle.mysql_digests.specs.Digest.{IsDigest, digest_of}
use Rattle.mysql_digests.specs.Laws.{WorkedDigests}
use Rattle.mysql_digests.proofs.Forms.{all_singles}
use Rattle.mysql_digests.proofs.Lexing.{singles}

-- of a text whose bytes are tokens by themselves
plain_digest : (mode : Mode) (text digest : List ℕ) → AllByRecursion (λ b. is_plain b ≡ true) text →
    digest ≡ digest_of mode (singles text) → IsDigest mode text digest
plain_digest mode text digest p e = (singles text, all_singles mode text p, e)

string_digest : (mode : Mode) → IsDigest mode (codes "'a'") (codes "?")
string_digest mode = (
  codes "'a'" ∷ [],
  record {
    joined = refl;
    each = (
      record {
        parts = Byte 0x61 ∷ [];
        closing = single_quote ∷ [];
        inside =
            (((λ e. absurd (omega arith)), λ _ e. absurd (omega arith)), tt);
        spelled = refl;
        closes =
            inl (refl, tt);
      },
      tt,
    );
  },
  refl,
)

sign_digest : (mode : Mode) → IsDigest mode (codes "-5") (codes "?")
sign_digest mode = (singles (codes "-5"), record { joined = refl; each = ((0x2d, refl), ((0x35, refl), tt)) }, refl)

minus_digest : (mode : Mode) → IsDigest mode (codes "a-5") (codes "a - ?")
minus_digest mode = (
  singles (codes "a-5"),
  record { joined = refl; each = ((0x61, refl), ((0x2d, refl), ((0x35, refl), tt))) },
  refl,
)

exponent_digest : (mode : Mode) → IsDigest mode (codes "1.5e-7") (codes "?")
exponent_digest mode = (
  singles (codes "1.5e-7"),
  record {
    joined = refl;
    each = (
      (0x31, refl),
      (
        (0x2e, refl),
        ((0x35, refl), ((0x65, refl), ((0x2d, refl), ((0x37, refl), tt)))),
      ),
    );
  },
  refl,
)

hexadecimal_digest : (mode : Mode) → IsDigest mode (codes "0x1e-7") (codes "? - ?")
hexadecimal_digest mode = (
  singles (codes "0x1e-7"),
  record {
    joined = refl;
    each = (
      (0x30, refl),
      (
        (0x78, refl),
        ((0x31, refl), ((0x65, refl), ((0x2d, refl), ((0x37, refl), tt)))),
      ),
    );
  },
  refl,
)

prefix_digest : (mode : Mode) → IsDigest mode (codes "X'a'") (codes "?")
prefix_digest mode = (
  codes "X" ∷ codes "'a'" ∷ [],
  record {
    joined = refl;
    each = (
      (0x58, refl),
      (
        record {
          parts = Byte 0x61 ∷ [];
          closing = single_quote ∷ [];
          inside =
              (((λ e. absurd (omega arith)), λ _ e. absurd (omega arith)), tt);
          spelled = refl;
          closes =
              inl (refl, tt);
        },
        tt,
      ),
    );
  },
  refl,
)

mark_digest : (mode : Mode) → IsDigest mode (codes "a<=?") (codes "a <= ?")
mark_digest mode = (
  singles (codes "a<=?"),
  record { joined = refl; each = ((0x61, refl), ((0x3c, refl), ((0x3d, refl), (refl, tt)))) },
  refl,
)

comment_digest : (mode : Mode) → IsDigest mode (codes "a/**/b") (codes "a b")
comment_digest mode = (
  codes "a" ∷ codes "/**/" ∷ codes "b" ∷ [],
  record {
    joined = refl;
    each = (
      (0x61, refl),
      (
        record {
          inside = [];
          closing = star ∷ slash ∷ [];
          spelled = refl;
          ends =
              inl (refl, tt);
        },
        ((0x62, refl), tt),
      ),
    );
  },
  refl,
)

hint_digest : (mode : Mode) → IsDigest mode (codes "/*+b*/a") (codes "a")
hint_digest mode = (
  codes "/*+b*/" ∷ codes "a" ∷ [],
  record {
    joined = refl;
    each = (
      record {
        inside = codes "+b";
        closing = star ∷ slash ∷ [];
        spelled = refl;
        ends =
            inl (refl, ((λ e. absurd (omega arith)), ((λ e. absurd (omega arith)), tt)));
      },
      ((0x61, refl), tt),
    );
  },
  refl,
)

simple_digest : (mode : Mode) → IsDigest mode (codes "/*!1 b*/a") (codes "a")
simple_digest mode = (
  codes "/*!1 b*/" ∷ codes "a" ∷ [],
  record {
    joined = refl;
    each = (
      record {
        inside = codes "!1 b";
        closing = star ∷ slash ∷ [];
        spelled = refl;
        ends = inl (
          refl,
          (
            (λ e. absurd (omega arith)),
            (
              (λ e. absurd (omega arith)),
              ((λ e. absurd (omega arith)), ((λ e. absurd (omega arith)), tt)),
            ),
          ),
        );
      },
      ((0x61, refl), tt),
    );
  },
  refl,
)

opening_digest : (mode : Mode) → IsDigest mode (codes "a/*!b") (codes "a /* ... */")
opening_digest mode = (
  codes "a" ∷ codes "/*!" ∷ codes "b" ∷ [],
  record { joined = refl; each = ((0x61, refl), (refl, ((0x62, refl), tt))) },
  refl,
)

mariadb_digest : (mode : Mode) → IsDigest mode (codes "a/*M!b*/") (codes "a /* ... */")
mariadb_digest mode = (
  codes "a" ∷ codes "/*M!b*/" ∷ [],
  record {
    joined = refl;
    each = (
      (0x61, refl),
      (
        record {
          inside = codes "M!b";
          closing = star ∷ slash ∷ [];
          spelled = refl;
          ends = inl (
            refl,
            (
              (λ e. absurd (omega arith)),
              ((λ e. absurd (omega arith)), ((λ e. absurd (omega arith)), tt)),
            ),
          );
        },
        tt,
      ),
    );
  },
  refl,
)

pub worked_digests : WorkedDigests
worked_digests = record {
  value = λ mode. plain_digest mode _ _ (refl, (refl, (refl, tt))) refl;
  string = string_digest;
  null = λ mode. plain_digest mode _ _ (refl, (refl, (refl, (refl, tt)))) refl;
  word = λ mode. plain_digest mode _ _ (refl, (refl, tt)) refl;
  sign = sign_digest;
  minus = minus_digest;
  exponent = exponent_digest;
  hexadecimal = hexadecimal_digest;
  prefix = prefix_digest;
  values = λ mode. plain_digest mode _ _ (refl, (refl, (refl, (refl, (refl, tt))))) refl;
  row = λ mode. plain_digest mode _ _ (refl, (refl, (refl, tt))) refl;
  rows = λ mode. plain_digest mode _ _ (
    refl,
    (refl, (refl, (refl, (refl, (refl, (refl, (refl, (refl, (refl, (refl, tt)))))))))),
  ) refl;
  mark = mark_digest;
  comment = comment_digest;
  introducer = λ mode. plain_digest mode _ _ (
    refl,
    (refl, (refl, (refl, (refl, (refl, (refl, (refl, (refl, (refl, (refl, (refl, tt))))))))))),
  )
      refl;
  hint = hint_digest;
  simple = simple_digest;
  opening = opening_digest;
  mariadb = mariadb_digest;
  bracket = λ mode. plain_digest mode _ _ (refl, (refl, (refl, (refl, tt)))) refl;
  dollars = λ mode. plain_digest mode _ _ (refl, (refl, (refl, (refl, tt)))) refl;
  dollar_word = λ mode. plain_digest mode _ _ (refl, (refl, (refl, (refl, tt)))) refl;
}

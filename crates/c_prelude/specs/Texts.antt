-- The text of each header, line by line.
use Rattle.std.specs.Prelude.{ℕ, List, [], ◌∷◌, ◌++◌, codes}
use Rattle.c_prelude.specs.declared.header.Header.{Header}
use Rattle.c_prelude.specs.declared.header.Header.TheVariants as h

-- each line ends with a line feed
abbrev pub lines : List (List ℕ) → List ℕ
lines [] = []
lines (line ∷ rest) = line ++ (10 ∷ lines rest)

-- Common definitions (C11 7.19), and the copy that the other headers make of bytes
unfoldable pub stddef : List ℕ
stddef = lines (
    codes "typedef unsigned long size_t;typedef long ptrdiff_t;" ∷
    codes "#define NULL ((void*)0)" ∷
    codes "void __filc_copy(void*d,const void*s,size_t n){size_t i=0;" ∷
    codes "if(((size_t)d|(size_t)s)%8==0)for(;i+8<=n;i+=8)" ∷
    codes "*(void**)((char*)d+i)=*(void*const*)((const char*)s+i);" ∷
    codes "for(;i<n;i++)((char*)d)[i]=((const char*)s)[i];}" ∷
    [])

-- Integer types of a width (C11 7.20)
unfoldable pub stdint : List ℕ
stdint = lines (
    codes "typedef signed char int8_t;" ∷
    codes "typedef short int16_t;" ∷
    codes "typedef int int32_t;" ∷
    codes "typedef long int64_t;" ∷
    codes "typedef unsigned char uint8_t;" ∷
    codes "typedef unsigned short uint16_t;" ∷
    codes "typedef unsigned int uint32_t;" ∷
    codes "typedef unsigned long uint64_t;" ∷
    codes "typedef long intptr_t;" ∷
    codes "typedef unsigned long uintptr_t;" ∷
    codes "#define INT8_MIN (-128)" ∷
    codes "#define INT8_MAX 127" ∷
    codes "#define INT16_MIN (-32768)" ∷
    codes "#define INT16_MAX 32767" ∷
    codes "#define INT32_MIN (-2147483647-1)" ∷
    codes "#define INT32_MAX 2147483647" ∷
    codes "#define INT64_MIN (-9223372036854775807L-1)" ∷
    codes "#define INT64_MAX 9223372036854775807L" ∷
    codes "#define UINT8_MIN 0" ∷
    codes "#define UINT8_MAX 255" ∷
    codes "#define UINT16_MIN 0" ∷
    codes "#define UINT16_MAX 65535" ∷
    codes "#define UINT32_MIN 0U" ∷
    codes "#define UINT32_MAX 4294967295U" ∷
    codes "#define UINT64_MIN 0UL" ∷
    codes "#define UINT64_MAX 18446744073709551615UL" ∷
    codes "#define INTPTR_MIN (-9223372036854775807L-1)" ∷
    codes "#define INTPTR_MAX 9223372036854775807L" ∷
    codes "#define UINTPTR_MIN 0UL" ∷
    codes "#define UINTPTR_MAX 18446744073709551615UL" ∷
    codes "#define SIZE_MAX 18446744073709551615UL" ∷
    [])

-- The ranges of the integer types (C11 5.2.4.2.1)
unfoldable pub limits : List ℕ
limits = lines (
    codes "#define CHAR_BIT 8" ∷
    codes "#define SCHAR_MIN (-128)" ∷
    codes "#define SCHAR_MAX 127" ∷
    codes "#define CHAR_MIN (-128)" ∷
    codes "#define CHAR_MAX 127" ∷
    codes "#define SHRT_MIN (-32768)" ∷
    codes "#define SHRT_MAX 32767" ∷
    codes "#define INT_MIN (-2147483647-1)" ∷
    codes "#define INT_MAX 2147483647" ∷
    codes "#define LONG_MIN (-9223372036854775807L-1)" ∷
    codes "#define LONG_MAX 9223372036854775807L" ∷
    codes "#define LLONG_MIN (-9223372036854775807LL-1)" ∷
    codes "#define LLONG_MAX 9223372036854775807LL" ∷
    codes "#define UCHAR_MAX 255" ∷
    codes "#define USHRT_MAX 65535" ∷
    codes "#define UINT_MAX 4294967295U" ∷
    codes "#define ULONG_MAX 18446744073709551615UL" ∷
    codes "#define ULLONG_MAX 18446744073709551615ULL" ∷
    [])

-- The Boolean type (C11 7.18)
unfoldable pub stdbool : List ℕ
stdbool = lines (
    codes "#define bool _Bool" ∷
    codes "#define true 1" ∷
    codes "#define false 0" ∷
    [])

-- Memory, the end of a run, absolute values (C11 7.22)
unfoldable pub stdlib : List ℕ
stdlib = lines (
    codes "#include <stddef.h>" ∷
    codes "void*malloc(size_t n){return __filc_new(n);}" ∷
    codes "void free(void*p){__filc_free(p);}" ∷
    codes "void*calloc(size_t a,size_t b){" ∷
    codes "if(b!=0&&a>18446744073709551615UL/b)return NULL;return __filc_new(a*b);}" ∷
    codes "void*realloc(void*p,size_t n){if(p==NULL)return __filc_new(n);" ∷
    codes "size_t m=__filc_size(p);void*q=__filc_new(n);if(q==NULL)return NULL;" ∷
    codes "__filc_copy(q,p,m<n?m:n);__filc_free(p);return q;}" ∷
    codes "void exit(int s){__filc_exit(s);}" ∷
    codes "void abort(void){__filc_abort();}" ∷
    codes "int abs(int x){return x<0?-x:x;}" ∷
    codes "long labs(long x){return x<0?-x:x;}" ∷
    [])

-- Bytes and strings (C11 7.24)
unfoldable pub string : List ℕ
string = lines (
    codes "#include <stddef.h>" ∷
    codes "void*memcpy(void*d,const void*s,size_t n){__filc_copy(d,s,n);return d;}" ∷
    codes "void*memmove(void*d,const void*s,size_t n){" ∷
    codes "if((size_t)d<=(size_t)s||(size_t)d-(size_t)s>=n)__filc_copy(d,s,n);" ∷
    codes "else{size_t i=n;int w=((size_t)d|(size_t)s)%8==0;" ∷
    codes "while(i>0)if(w&&i%8==0){i-=8;" ∷
    codes "*(void**)((char*)d+i)=*(void*const*)((const char*)s+i);}" ∷
    codes "else{i--;((char*)d)[i]=((const char*)s)[i];}}return d;}" ∷
    codes "void*memset(void*d,int c,size_t n){" ∷
    codes "for(size_t i=0;i<n;i++)((unsigned char*)d)[i]=c;return d;}" ∷
    codes "int memcmp(const void*a,const void*b,size_t n){const unsigned char*x=a,*y=b;" ∷
    codes "for(size_t i=0;i<n;i++)if(x[i]!=y[i])return x[i]<y[i]?-1:1;return 0;}" ∷
    codes "size_t strlen(const char*s){size_t n=0;while(s[n])n++;return n;}" ∷
    codes "int strncmp(const char*a,const char*b,size_t n){for(size_t i=0;i<n;i++){" ∷
    codes "unsigned char x=a[i],y=b[i];if(x!=y)return x<y?-1:1;if(x==0)return 0;}" ∷
    codes "return 0;}" ∷
    codes "int strcmp(const char*a,const char*b){" ∷
    codes "return strncmp(a,b,18446744073709551615UL);}" ∷
    codes "char*strcpy(char*d,const char*s){size_t i=0;while((d[i]=s[i]))i++;return d;}" ∷
    codes "char*strcat(char*d,const char*s){strcpy(d+strlen(d),s);return d;}" ∷
    codes "char*strchr(const char*s,int c){for(;;s++){if(*s==(char)c)return(char*)s;" ∷
    codes "if(*s==0)return NULL;}}" ∷
    [])

-- Output and input (C11 7.21)
unfoldable pub stdio : List ℕ
stdio = lines (
    codes "#include <stddef.h>" ∷
    codes "#define EOF (-1)" ∷
    codes "#define printf __filc_printf" ∷
    codes "static _Atomic int __filc_out_lock;" ∷
    codes "static int __filc_put(const char*s){int n=0;" ∷
    codes "for(;s[n];n++)__filc_out(s[n]);return n;}" ∷
    codes "static int __filc_put_unsigned(unsigned long v,unsigned long b){int n=0;" ∷
    codes "if(v>=b)n=__filc_put_unsigned(v/b,b);" ∷
    codes "__filc_out(\"0123456789abcdef\"[v%b]);return n+1;}" ∷
    codes "static int __filc_put_signed(long v){if(v<0){__filc_out('-');" ∷
    codes "return 1+__filc_put_unsigned(0-(unsigned long)v,10);}" ∷
    codes "return __filc_put_unsigned(v,10);}" ∷
    codes "int putchar(int c){__filc_lock(&__filc_out_lock);__filc_out(c);" ∷
    codes "__filc_out_lock=0;return(unsigned char)c;}" ∷
    codes "int puts(const char*s){__filc_lock(&__filc_out_lock);__filc_put(s);" ∷
    codes "__filc_out('\\n');__filc_out_lock=0;return 0;}" ∷
    codes "int getchar(void){return __filc_in();}" ∷
    [])

-- the whole text of a header
unfoldable pub text_of : Header → List ℕ
text_of h.StdDef = stddef
text_of h.StdInt = stdint
text_of h.Limits = limits
text_of h.StdBool = stdbool
text_of h.StdLib = stdlib
text_of h.String = string
text_of h.StdIo = stdio

-- the name between `<` and `>`
unfoldable pub name_of : Header → List ℕ
name_of h.StdDef = codes "stddef.h"
name_of h.StdInt = codes "stdint.h"
name_of h.Limits = codes "limits.h"
name_of h.StdBool = codes "stdbool.h"
name_of h.StdLib = codes "stdlib.h"
name_of h.String = codes "string.h"
name_of h.StdIo = codes "stdio.h"
